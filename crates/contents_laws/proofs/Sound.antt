-- Bodies that a sheet can order, by themselves and together.
use Rattle.std.proofs.Common.{◌≡◌, ℕ, ◌+◌, ◌<◌, ◌≤◌, Bool, true, false, not, ◌&&◌, leb, List, [], ◌∷◌, ◌++◌, length, Decides, refl, arith, length-append}
use Rattle.std.specs.List.{AllByRecursion}
use Rattle.std.specs.Str.{bytes_eq}
use Rattle.std.proofs.ByRecursion.{All-push}
use Rattle.std.proofs.lemmas.Slice.Eq.{bytes_eq-Decides}
use Rattle.std.proofs.lemmas.List.{length_push}
use Rattle.std.proofs.lemmas.Bool.{and_parts, and_right, leb-true, le-leb}
use Rattle.std.proofs.lemmas.Bool.Decides.{Decides-and, Decides-like}
use Rattle.sheet_format.specs.Lines.{all_graphic, is_name}
use Rattle.sheet_format.specs.Orders.{BodyOrder, is_ctr, total_blocks}
use Rattle.sheet_format.specs.Sizes.{blocks_of}
use Rattle.sheet_format.specs.declared.Mode.TheVariants.{Ctr}
use Rattle.sheet_laws.specs.Passes.{NoTwo}
use Rattle.sheet_laws.proofs.Conditions.{is-ctr}
use Rattle.sheet_laws.proofs.Fitting.{and-or}
use Rattle.sheet_laws.proofs.Prefixes.{all_middle, no_two-push, no_two-next, none-by-or}
use Rattle.contents_format.specs.Layout.{start_length}
use Rattle.contents_format.specs.Reading.{name_in, ctr_start_in, may_follow}
use Rattle.contents_laws.proofs.Digits.{Bytes}

abbrev pub SameName : BodyOrder → BodyOrder → Type 0
SameName a b = a.name ≡ b.name

abbrev pub SameStart : BodyOrder → BodyOrder → Type 0
SameStart a b = (a.mode ≡ Ctr) × (b.mode ≡ Ctr) × (a.start ≡ b.start)

-- a body by itself, for the block length n
pub record Fit (n : ℕ) (b : BodyOrder) : Type 0 where
  pub limit : b.len ≤ 1048576
  pub long : length b.start ≡ start_length b.mode n
  pub bytes : Bytes b.start
  pub named : is_name b.name ≡ true

pub name-short : (xs : List ℕ) → is_name xs ≡ true → length xs ≤ 32
name-short [] e = omega arith
name-short (x ∷ xs) e = leb-true (length (x ∷ xs)) 32 (and_parts (leb (length (x ∷ xs)) 32) (all_graphic (x ∷ xs)) e).0

-- bodies together
pub record Sound (n : ℕ) (bs : List BodyOrder) : Type 0 where
  pub few : length bs ≤ 32
  pub each : AllByRecursion (Fit n) bs
  pub names : NoTwo SameName bs
  pub starts : NoTwo SameStart bs
  pub blocks : total_blocks n bs ≤ 1000000

-- what the tests of a next body say
pub record Next (n : ℕ) (bs : List BodyOrder) (b : BodyOrder) : Type 0 where
  pub names : AllByRecursion (λ e. SameName e b → ⊥) bs
  pub starts : AllByRecursion (λ e. SameStart e b → ⊥) bs
  pub blocks : total_blocks n (bs ++ b ∷ []) ≤ 1000000

pub sound_none : (n : ℕ) → Sound n []
sound_none n = record { few = omega arith; each = tt; names = tt; starts = tt; blocks = omega arith }

pub sound-push : (n : ℕ) (bs : List BodyOrder) (b : BodyOrder) → length bs < 32 → Sound n bs → Fit n b → Next n bs b → Sound n (bs ++ b ∷ [])
sound-push n bs b room s f next = record {
  few = omega (arith, length_push bs b);
  each = All-push (Fit n) bs b s.each f;
  names = no_two-push SameName bs b s.names next.names;
  starts = no_two-push SameStart bs b s.starts next.starts;
  blocks = next.blocks;
}

-- a front of sound bodies

all-front : {X : Type 0} (P : X → Type 0) (xs ys : List X) → AllByRecursion P (xs ++ ys) → AllByRecursion P xs
all-front P [] ys h = tt
all-front P (x ∷ xs) ys h = (h.0, all-front P xs ys h.1)

no_two-front : {X : Type 0} (Alike : X → X → Type 0) (xs ys : List X) → NoTwo Alike (xs ++ ys) → NoTwo Alike xs
no_two-front Alike [] ys h = tt
no_two-front Alike (x ∷ xs) ys h = (all-front (λ y. Alike x y → ⊥) xs ys h.0, no_two-front Alike xs ys h.1)

blocks-append : (n : ℕ) (xs ys : List BodyOrder) → total_blocks n (xs ++ ys) ≡ total_blocks n xs + total_blocks n ys
blocks-append n [] ys = omega arith
blocks-append n (x ∷ xs) ys = let h = blocks-append n xs ys in omega arith

pub blocks-push : (n : ℕ) (bs : List BodyOrder) (b : BodyOrder) → total_blocks n (bs ++ b ∷ []) ≡ total_blocks n bs + blocks_of b.mode n b.len
blocks-push n bs b = let h = blocks-append n bs (b ∷ []) in omega arith

pub sound-front : (n : ℕ) (xs ys : List BodyOrder) → Sound n (xs ++ ys) → Sound n xs
sound-front n xs ys s = record {
  few = omega (arith, length-append xs ys, s.few);
  each = all-front (Fit n) xs ys s.each;
  names = no_two-front SameName xs ys s.names;
  starts = no_two-front SameStart xs ys s.starts;
  blocks = omega (arith, blocks-append n xs ys, s.blocks);
}

-- the body after a front
pub next_of : (n : ℕ) (bs : List BodyOrder) (b : BodyOrder) (later : List BodyOrder) → Sound n (bs ++ b ∷ later) → Fit n b × Next n bs b
next_of n bs b later s = (
  all_middle (Fit n) bs b later s.each,
  record {
    names = no_two-next SameName bs b later s.names;
    starts = no_two-next SameStart bs b later s.starts;
    blocks = omega (arith, blocks-append n bs (b ∷ later), blocks-push n bs b, s.blocks);
  },
)

-- the tests

decides-leb : (a b : ℕ) → Decides (leb a b) (a ≤ b)
decides-leb a b = (leb-true a b, le-leb a b)

abbrev shares_start : BodyOrder → BodyOrder → Bool
shares_start b e = is_ctr b.mode && (is_ctr e.mode && bytes_eq e.start b.start)

shares_start-decides : (b e : BodyOrder) → Decides (shares_start b e) (SameStart e b)
shares_start-decides b e =
    Decides-like (shares_start b e)
    (λ (h : (b.mode ≡ Ctr) × ((e.mode ≡ Ctr) × (e.start ≡ b.start))). (h.1.0, h.0, h.1.1))
    (λ (h : SameStart e b). (h.1, (h.0, h.2)))
    (Decides-and (is_ctr b.mode) (is_ctr e.mode && bytes_eq e.start b.start) (is-ctr b.mode)
    (Decides-and (is_ctr e.mode) (bytes_eq e.start b.start) (is-ctr e.mode) (bytes_eq-Decides e.start b.start)))

name_new : (b : BodyOrder) (bs : List BodyOrder) → Decides (not (name_in b.name bs)) (AllByRecursion (λ e. SameName e b → ⊥) bs)
name_new b =
    none-by-or (λ e. bytes_eq e.name b.name) (λ e. SameName e b) (name_in b.name)
    (λ e. bytes_eq-Decides e.name b.name) refl (λ _ _. refl)

start-new : (b : BodyOrder) (bs : List BodyOrder) → Decides (not (is_ctr b.mode && ctr_start_in b.start bs)) (AllByRecursion (λ e. SameStart e b → ⊥) bs)
start-new b =
    none-by-or (shares_start b) (λ e. SameStart e b) (λ es. is_ctr b.mode && ctr_start_in b.start es)
    (shares_start-decides b) (and_right (is_ctr b.mode) false refl)
    (λ e es. and-or (is_ctr b.mode) (is_ctr e.mode && bytes_eq e.start b.start) (ctr_start_in b.start es))

pub next-decides : (n : ℕ) (bs : List BodyOrder) (b : BodyOrder) → Decides (may_follow n bs b) (Next n bs b)
next-decides n bs b =
    Decides-like (may_follow n bs b)
    (λ (h : AllByRecursion (λ e. SameName e b → ⊥) bs × (AllByRecursion (λ e. SameStart e b → ⊥) bs × (total_blocks n (bs ++ b ∷ []) ≤ 1000000))).
    record { names = h.0; starts = h.1.0; blocks = h.1.1 })
    (λ (h : Next n bs b). (h.names, (h.starts, h.blocks)))
    (Decides-and _ _ (name_new b bs) (Decides-and _ _ (start-new b bs) (decides-leb (total_blocks n (bs ++ b ∷ [])) 1000000)))
