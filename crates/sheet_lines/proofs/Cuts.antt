-- A text that is cut at its first byte `at`, by the place of that byte.
use Rattle.std.proofs.Common.{suc, ◌≡◌, ℕ, ◌+◌, ◌<◌, ◌≤◌, true, false, cond, eqb, ltb, List, [], ◌∷◌, length, take, drop, Some, None, Option, refl, sym, ap, ◌∙◌, ⊎_elim, arith, add-one}
use Rattle.std.specs.List.{position, position_or_len}
use Rattle.std.specs.Option.{option_map}
use Rattle.std.proofs.lemmas.Bool.{cases_Bool, cases_lt, lt-ltb, le-ltb}
use Rattle.sheet_format.specs.Lines.{grown, cut_of}

-- the two parts beside place n, if the text has it
abbrev beside : ℕ → List ℕ → Option (List ℕ × List ℕ)
beside n xs = option_map (λ i. (take i xs, drop (i + 1) xs)) (cond (ltb n (length xs)) (Some n) None)

beside-more : (n x : ℕ) (xs : List ℕ) → beside (1 + n) (x ∷ xs) ≡ grown x (beside n xs)
beside-more n x xs =
    let one : 1 + n ≡ suc n = omega arith in
    ⊎_elim
    (λ (h : n < length xs).
    let a : ltb n (length xs) ≡ true = lt-ltb _ _ h in
    let b : ltb (1 + n) (length (x ∷ xs)) ≡ true = lt-ltb _ _ (omega arith) in rw (a, b) (simp (one, add-one)))
    (λ (h : length xs ≤ n).
    let a : ltb n (length xs) ≡ false = le-ltb _ _ h in
    let b : ltb (1 + n) (length (x ∷ xs)) ≡ false = le-ltb _ _ (omega arith) in rw (a, b))
    (cases_lt n (length xs))

pub cut_at : (at : ℕ) (xs : List ℕ) → cut_of at xs ≡ option_map (λ i. (take i xs, drop (i + 1) xs)) (position (λ b. eqb b at) xs)
cut_at at [] = refl
cut_at at (x ∷ xs) =
    let n = position_or_len (λ b. eqb b at) xs in
    ⊎_elim
    (λ (t : eqb x at ≡ true). let a : ltb 0 (length (x ∷ xs)) ≡ true = lt-ltb _ _ (omega arith) in rw (t, a) refl)
    (λ (t : eqb x at ≡ false). rw t (ap (grown x) (cut_at at xs) ∙ sym (beside-more n x xs)))
    (cases_Bool (eqb x at))
