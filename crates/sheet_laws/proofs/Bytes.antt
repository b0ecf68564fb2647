-- The first byte that is not allowed, and the number of its line.
use Rattle.std.proofs.Common.{◌≡◌, ℕ, ◌+◌, true, false, cond, eqb, List, [], ◌∷◌, ◌++◌, Some, None, Option, refl, ap, ◌∙◌, subst, ⊎_elim, arith}
use Rattle.std.proofs.lemmas.Bool.{cases_Bool}
use Rattle.std.proofs.lemmas.Bool.Decides.{not_from_Decides}
use Rattle.std.specs.List.{AllByRecursion}
use Rattle.sheet_format.specs.Orders.{is_allowed, bad_line, byte_fault}
use Rattle.sheet_laws.specs.Grammar.{Iff}
use Rattle.sheet_laws.specs.Meets.{Allowed, endings}
use Rattle.sheet_laws.proofs.Clash.{clash}
use Rattle.sheet_laws.proofs.Conditions.{allowed-decides}
use Rattle.sheet_laws.proofs.Prefixes.{all_middle}

-- a text up to its first byte that is not allowed
abbrev FirstBad : List ℕ → ℕ → ℕ → Type 0
FirstBad xs k j =
    (before : List ℕ) × (x : ℕ) × (after : List ℕ)
    × (xs ≡ before ++ x ∷ after) × AllByRecursion Allowed before × (Allowed x → ⊥) × (j ≡ endings before + k)

abbrev pub BadLineTells : ℕ → List ℕ → Option ℕ → Type 0
BadLineTells k xs None = AllByRecursion Allowed xs
BadLineTells k xs (Some j) = FirstBad xs k j

-- one more allowed byte in front
one_more : (k x : ℕ) (xs : List ℕ) (o : Option ℕ) → Allowed x → BadLineTells (cond (eqb x 10) (k + 1) k) xs o → BadLineTells k (x ∷ xs) o
one_more k x xs None good tells = (good, tells)
one_more k x xs (Some j) good tells =
    let lines : endings tells.0 + cond (eqb x 10) (k + 1) k ≡ endings (x ∷ tells.0) + k =
    elim (eqb x 10) as (λ b. endings tells.0 + cond b (k + 1) k ≡ cond b (1 + endings tells.0) (endings tells.0) + k)
    [ true ↦ omega arith | false ↦ refl ] in
    (x ∷ tells.0, tells.1, tells.2, ap (λ (ys : List ℕ). x ∷ ys) tells.3, (good, tells.4), tells.5, tells.6 ∙ lines)

pub bad-line-tells : (k : ℕ) (xs : List ℕ) → BadLineTells k xs (bad_line k xs)
bad-line-tells k [] = tt
bad-line-tells k (x ∷ xs) =
    ⊎_elim
    (λ (t : is_allowed x ≡ true).
    rw t (one_more k x xs (bad_line (cond (eqb x 10) (k + 1) k) xs) ((allowed-decides x).0 t) (bad-line-tells (cond (eqb x 10) (k + 1) k) xs)))
    (λ (t : is_allowed x ≡ false). rw t ([], x, xs, refl, tt, not_from_Decides (is_allowed x) (allowed-decides x) t, omega arith))
    (cases_Bool (is_allowed x))

-- a text has one front before its first byte that is not allowed
pub one-front : (before before' : List ℕ) (x x' : ℕ) (after after' : List ℕ) → before ++ x ∷ after ≡ before' ++ x' ∷ after'
    → AllByRecursion Allowed before → AllByRecursion Allowed before' → (Allowed x → ⊥) → (Allowed x' → ⊥) → before ≡ before'
one-front [] [] x x' after after' e all all' bad bad' = refl
one-front [] (y ∷ ys) x x' after after' e all all' bad bad' =
    let s : y ≡ x = cc in absurd (bad (subst Allowed s all'.0))
one-front (y ∷ ys) [] x x' after after' e all all' bad bad' =
    let s : y ≡ x' = cc in absurd (bad' (subst Allowed s all.0))
one-front (y ∷ ys) (z ∷ zs) x x' after after' e all all' bad bad' =
    let s : y ≡ z = cc in
    let t : ys ++ x ∷ after ≡ zs ++ x' ∷ after' = cc in
    let r = one-front ys zs x x' after after' t all.1 all'.1 bad bad' in
    cc

-- a text with such a byte is not allowed throughout
pub not-all-allowed : (xs : List ℕ) (k j : ℕ) → FirstBad xs k j → AllByRecursion Allowed xs → ⊥
not-all-allowed xs k j bad all = bad.5 (all_middle Allowed bad.0 bad.1 bad.2 (subst (AllByRecursion Allowed) bad.3 all))

-- no byte is refused exactly where all are allowed
pub bytes-unrefused : (k : ℕ) (xs : List ℕ) (o : Option ℕ) → BadLineTells k xs o → Iff (byte_fault o ≡ None) (AllByRecursion Allowed xs)
bytes-unrefused k xs None all = (λ e. all, λ h. refl)
bytes-unrefused k xs (Some j) bad = (λ e. clash (cc), λ h. absurd (not-all-allowed xs k j bad h))
