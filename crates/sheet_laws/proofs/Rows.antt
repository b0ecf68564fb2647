-- The lines of a sheet, and that reading finds the forms of exactly the sheets that are written from them.
use Rattle.std.proofs.Common.{◌≡◌, ℕ, true, false, cond, eqb, List, [], ◌∷◌, ◌++◌, map, Some, sym, refl, ap, ◌∙◌, subst, ap₂, ⊎_elim, append_assoc, arith}
use Rattle.std.proofs.lemmas.Bool.{cases_Bool, eqb-true, eqb-false, ne_eqb}
use Rattle.std.specs.List.{flat_map, AllByRecursion}
use Rattle.sheet_format.specs.Lines.{Row, ended, unended, on_first, rows_of, Form, form_of, line_of, lines_of}
use Rattle.sheet_laws.specs.Grammar.{Lacks, HasForm, Written, ReadsWritten, bytes_of, text_of, LastUnended, LinesMakeSheet}
use Rattle.sheet_laws.proofs.Clash.{clash}
use Rattle.sheet_laws.proofs.Forms.{form-found, form-made, form-lacks}

abbrev AllLack : List Row → Type 0
AllLack rows = AllByRecursion (λ r. Lacks 10 (text_of r)) rows

first-bytes : (x : ℕ) (rows : List Row) → flat_map bytes_of (on_first x rows) ≡ x ∷ flat_map bytes_of rows
first-bytes x [] = refl
first-bytes x (ended text ∷ rows) = refl
first-bytes x (unended text ∷ rows) = refl

-- the lines put together again are the sheet
rows-joined : (xs : List ℕ) → flat_map bytes_of (rows_of xs) ≡ xs
rows-joined [] = refl
rows-joined (x ∷ xs) =
    ⊎_elim
    (λ (t : eqb x 10 ≡ true). rw t (ap₂ ◌∷◌ (sym (eqb-true x 10 t)) (rows-joined xs)))
    (λ (t : eqb x 10 ≡ false). rw t (first-bytes x (rows_of xs) ∙ ap (λ (ys : List ℕ). x ∷ ys) (rows-joined xs)))
    (cases_Bool (eqb x 10))

first-lacks : (x : ℕ) (rows : List Row) → (x ≡ 10 → ⊥) → AllLack rows → AllLack (on_first x rows)
first-lacks x [] n h = ((n, tt), tt)
first-lacks x (ended text ∷ rows) n h = ((n, h.0), h.1)
first-lacks x (unended text ∷ rows) n h = ((n, h.0), h.1)

rows-lack : (xs : List ℕ) → AllLack (rows_of xs)
rows-lack [] = tt
rows-lack (x ∷ xs) =
    ⊎_elim
    (λ (t : eqb x 10 ≡ true). rw t (tt, rows-lack xs))
    (λ (t : eqb x 10 ≡ false). rw t (first-lacks x (rows_of xs) (eqb-false x 10 t) (rows-lack xs)))
    (cases_Bool (eqb x 10))

first-unended : (x : ℕ) (rows : List Row) → LastUnended rows → LastUnended (on_first x rows)
first-unended x [] h = (omega arith, refl)
first-unended x (ended text ∷ rows) h = h
first-unended x (unended text ∷ rows) h = (omega arith, h.1)

rows-unended : (xs : List ℕ) → LastUnended (rows_of xs)
rows-unended [] = tt
rows-unended (x ∷ xs) =
    elim (eqb x 10) as (λ b. LastUnended (cond b (ended [] ∷ rows_of xs) (on_first x (rows_of xs))))
    [ true ↦ rows-unended xs | false ↦ first-unended x (rows_of xs) (rows-unended xs) ]

pub lines-make-sheet : LinesMakeSheet
lines-make-sheet sheet = (rows-joined sheet, rows-lack sheet, rows-unended sheet)

-- a text without byte 10 that a byte 10 ends is the first line
pub first-row : (text rest : List ℕ) → Lacks 10 text → rows_of (text ++ 10 ∷ rest) ≡ ended text ∷ rows_of rest
first-row [] rest h = refl
first-row (x ∷ text) rest h = rw (ne_eqb x 10 h.0, first-row text rest h.1)

-- lines that all read as forms are written from them
rows_written : (rows : List Row) (forms : List Form) → AllLack rows → map line_of rows ≡ map (λ f. Some f) forms
    → Written (flat_map bytes_of rows) forms
rows_written [] [] h e = ([], refl, tt, refl)
rows_written [] (f ∷ fs) h e = clash (cc)
rows_written (r ∷ rows) [] h e = clash (cc)
rows_written (ended text ∷ rows) (f ∷ fs) h e =
    let first : form_of text ≡ Some f = cc in
    let others : map line_of rows ≡ map (λ f. Some f) fs = cc in
    let w = rows_written rows fs h.1 others in (
      (text, f) ∷ w.0,
      ap (λ (ys : List ℕ). (text ++ 10 ∷ []) ++ ys) w.1,
      (form-found text f h.0 first, w.2),
      ap (λ (gs : List Form). f ∷ gs) w.3,
    )
rows_written (unended text ∷ rows) (f ∷ fs) h e = clash (cc)

-- lines that have forms read as them
lines-read : (lines : List (List ℕ × Form)) → AllByRecursion (λ p. HasForm p.0 p.1) lines
    → lines_of (flat_map (λ p. p.0 ++ 10 ∷ []) lines) ≡ map (λ f. Some f) (map (λ p. p.1) lines)
lines-read [] h = refl
lines-read (p ∷ lines) h =
    let rest : List ℕ = flat_map (λ p. p.0 ++ 10 ∷ []) lines in
    ap lines_of (append_assoc p.0 (10 ∷ []) rest)
    ∙ ap (map line_of) (first-row p.0 rest (form-lacks p.0 p.1 h.0))
    ∙ ap₂ ◌∷◌ (form-made p.0 p.1 h.0) (lines-read lines h.1)

pub reads-written : ReadsWritten
reads-written sheet forms = (
  λ e. subst (λ (s : List ℕ). Written s forms) (rows-joined sheet) (rows_written (rows_of sheet) forms (rows-lack sheet) e),
  λ w. ap lines_of w.1 ∙ lines-read w.0 w.2 ∙ ap (map (λ f. Some f)) w.3,
)
