-- Lists that grow at their end, and tests that go through a list with `||`.
use Rattle.std.proofs.Common.{◌≡◌, ℕ, ◌≤◌, Bool, true, false, not, ◌&&◌, ◌||◌, List, [], ◌∷◌, ◌++◌, map, Decides, refl, ap, ◌∙◌, arith}
use Rattle.std.specs.List.{AllByRecursion}
use Rattle.std.proofs.ByRecursion.{All-push, Decides-by_and}
use Rattle.std.proofs.lemmas.Bool.Decides.{Decides-not}
use Rattle.sheet_format.specs.Lines.{Body}
use Rattle.sheet_format.specs.Orders.{ordered, total_blocks}
use Rattle.sheet_laws.specs.Passes.{NoTwo}

pub all_middle : {X : Type 0} (P : X → Type 0) (xs : List X) (x : X) (ys : List X) → AllByRecursion P (xs ++ x ∷ ys) → P x
all_middle P [] x ys h = h.0
all_middle P (z ∷ xs) x ys h = all_middle P xs x ys h.1

module _ {A : Type 0} (Alike : A → A → Type 0) where
  pub no_two-push : (xs : List A) (x : A) → NoTwo Alike xs → AllByRecursion (λ y. Alike y x → ⊥) xs → NoTwo Alike (xs ++ x ∷ [])
  no_two-push [] x h new = (tt, tt)
  no_two-push (y ∷ ys) x h new = (All-push (λ z. Alike y z → ⊥) ys x h.0 new.0, no_two-push ys x h.1 new.1)

  -- what follows a front is like none of it
  pub no_two-next : (xs : List A) (x : A) (ys : List A) → NoTwo Alike (xs ++ x ∷ ys) → AllByRecursion (λ y. Alike y x → ⊥) xs
  no_two-next [] x ys h = tt
  no_two-next (z ∷ xs) x ys h = (all_middle (λ y. Alike z y → ⊥) xs x ys h.0, no_two-next xs x ys h.1)

pub front-blocks : (n : ℕ) (bs : List Body) (b : Body) (later : List Body)
    → total_blocks n (map ordered (bs ++ b ∷ [])) ≤ total_blocks n (map ordered (bs ++ b ∷ later))
front-blocks n [] b later = omega arith
front-blocks n (x ∷ bs) b later =
    let h : total_blocks n (map ordered (bs ++ b ∷ [])) ≤ total_blocks n (map ordered (bs ++ b ∷ later)) = front-blocks n bs b later in
    omega arith

not-or : (x y : Bool) → not (x || y) ≡ (not x && not y)
not-or true y = refl
not-or false y = refl

-- f is a test that goes through a list with `||`
pub none-by-or : {X : Type 0} (p : X → Bool) (P : X → Type 0) (f : List X → Bool) → ((x : X) → Decides (p x) (P x))
    → f [] ≡ false → ((x : X) (xs : List X) → f (x ∷ xs) ≡ (p x || f xs))
    → (xs : List X) → Decides (not (f xs)) (AllByRecursion (λ x. P x → ⊥) xs)
none-by-or p P f each none more =
    Decides-by_and (λ x. not (p x)) (λ x. P x → ⊥) (λ xs. not (f xs)) (λ x. Decides-not (p x) (each x)) (ap not none)
    (λ x xs. ap not (more x xs) ∙ not-or (p x) (f xs))
