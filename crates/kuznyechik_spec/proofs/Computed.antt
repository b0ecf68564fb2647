-- A test that antt computes at each number below n holds of each.
use Rattle.std.proofs.Common.{◌≡◌, ℕ, zero, suc, ◌+◌, ◌<◌, Bool, true, false, T, List, [], ◌∷◌, length, get_or, sym, refl, ap, ◌∙◌, subst, le_of_suc-le-suc, not-suc-le-zero, add-zero, add-suc, suc-add, arith}

abbrev pub both : Bool → Bool → Bool
both true b = b
both false b = false

pub both_left : (a b : Bool) → T (both a b) → T a
both_left true b t = tt
both_left false b t = t

pub both_right : (a b : Bool) → T (both a b) → T b
both_right true b t = t
both_right false b t = absurd t

-- the n numbers from i on
abbrev pub up_to : ℕ → ℕ → List ℕ
up_to zero i = []
up_to (suc n) i = i ∷ up_to n (suc i)

pub length-up_to : (n i : ℕ) → length (up_to n i) ≡ n
length-up_to zero i = refl
length-up_to (suc n) i = ap suc (length-up_to n (suc i))

pub get_or-up_to : (n i k : ℕ) → k < n → get_or (up_to n i) k 0 ≡ i + k
get_or-up_to zero i k h = absurd (not-suc-le-zero h)
get_or-up_to (suc n) i zero h = sym (add-zero i)
get_or-up_to (suc n) i (suc k) h = get_or-up_to n (suc i) k (le_of_suc-le-suc h) ∙ suc-add i k ∙ sym (add-suc i k)

abbrev pub every : (ℕ → Bool) → List ℕ → Bool
every f [] = true
every f (x ∷ xs) = both (f x) (every f xs)

pub every-at : (f : ℕ → Bool) (xs : List ℕ) → T (every f xs) → (k : ℕ) → k < length xs → T (f (get_or xs k 0))
every-at f [] t k h = absurd (not-suc-le-zero h)
every-at f (x ∷ xs) t zero h = both_left (f x) (every f xs) t
every-at f (x ∷ xs) t (suc k) h = every-at f xs (both_right (f x) (every f xs) t) k (le_of_suc-le-suc h)

pub below : (f : ℕ → Bool) (n : ℕ) → T (every f (up_to n 0)) → (k : ℕ) → k < n → T (f k)
below f n t k h =
    subst (λ m. T (f m)) (get_or-up_to n 0 k h ∙ (omega arith)) (every-at f (up_to n 0) t k (subst (λ m. k < m) (sym (length-up_to n 0)) h))
