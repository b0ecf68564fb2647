-- A sheet from its first byte 10 on.
use Rattle.std.proofs.Common.{◌≡◌, ℕ, ◌+◌, ◌<◌, true, false, eqb, List, [], ◌∷◌, ◌++◌, map, length, Some, None, Option, refl, ap, ◌∙◌, ⊎_elim, arith, length-append}
use Rattle.std.proofs.lemmas.Bool.{cases_Bool, eqb-false}
use Rattle.sheet_format.specs.Lines.{unended, on_first, rows_of, grown, cut_of, line_of, form_of, lines_of}
use Rattle.sheet_laws.specs.Grammar.{Lacks}
use Rattle.sheet_laws.proofs.Clash.{clash}
use Rattle.sheet_laws.proofs.Cuts.{cut-found}
use Rattle.sheet_laws.proofs.Rows.{first-row}

pub lines-at-cut : (xs w r : List ℕ) → cut_of 10 xs ≡ Some (w, r)
    → (lines_of xs ≡ form_of w ∷ lines_of r) × (length r < length xs) × (xs ≡ w ++ 10 ∷ r) × Lacks 10 w
lines-at-cut xs w r e =
    let p = cut-found 10 xs w r e in
    let n : length xs ≡ length (w ++ 10 ∷ r) = ap length p.0 in
    let m : length (w ++ 10 ∷ r) ≡ length w + length (10 ∷ r) = length-append w (10 ∷ r) in
    (ap lines_of p.0 ∙ ap (map line_of) (first-row w r p.1), omega arith, p.0, p.1)

grown-none : (x : ℕ) (o : Option (List ℕ × List ℕ)) → grown x o ≡ None → o ≡ None
grown-none x None e = refl
grown-none x (Some p) e = clash (cc)

-- a sheet that is not cut goes on without a byte 10
uncut-rest : (x : ℕ) (xs : List ℕ) → cut_of 10 (x ∷ xs) ≡ None → (eqb x 10 ≡ false) × (cut_of 10 xs ≡ None)
uncut-rest x xs e =
    ⊎_elim
    (λ (t : eqb x 10 ≡ true). let g : Some ([], xs) ≡ None = rw t at e in clash (cc))
    (λ (t : eqb x 10 ≡ false). (t, grown-none x (cut_of 10 xs) (rw t at e)))
    (cases_Bool (eqb x 10))

-- with no byte 10 there is one row, and it is not ended
on-uncut : (x : ℕ) (xs : List ℕ) → cut_of 10 xs ≡ None → on_first x (rows_of xs) ≡ unended (x ∷ xs) ∷ []
on-uncut x [] e = refl
on-uncut x (y ∷ ys) e = let p = uncut-rest y ys e in rw p.0 (ap (on_first x) (on-uncut y ys p.1))

uncut-lacks : (xs : List ℕ) → cut_of 10 xs ≡ None → Lacks 10 xs
uncut-lacks [] e = tt
uncut-lacks (x ∷ xs) e = let p = uncut-rest x xs e in (eqb-false x 10 p.0, uncut-lacks xs p.1)

pub lines-uncut : (xs : List ℕ) → 0 < length xs → cut_of 10 xs ≡ None → (lines_of xs ≡ None ∷ []) × Lacks 10 xs
lines-uncut [] h e = absurd (let f : ⊥ = omega arith in f)
lines-uncut (x ∷ xs) h e = let p = uncut-rest x xs e in (rw p.0 (ap (map line_of) (on-uncut x xs p.1)), uncut-lacks (x ∷ xs) e)
