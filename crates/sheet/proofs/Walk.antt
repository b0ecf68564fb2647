-- From line to line: what the reader's answer tells of the order that the lines give.
use Rattle.std.proofs.Common.{◌≡◌, ℕ, ◌+◌, ◌<◌, ◌≤◌, true, leb, List, [], ◌∷◌, ◌++◌, length, Some, None, Ok, Err, Option, Result, sym, refl, ap, ◌∙◌, subst, arith, length-append}
use Rattle.std.proofs.lemmas.Bool.{and_parts, leb-true}
use Rattle.sheet_format.specs.Lines as format
use Rattle.sheet_format.specs.Lines.{Form, blank, comment, cipher, body, is_start, is_name, all_graphic}
use Rattle.sheet_format.specs.Orders.{line_fault, order_from, unless}
use Rattle.sheet_format.specs.declared.SheetFault.{SheetFault}
use Rattle.sheet_laws.specs.Grammar.{HasForm}
use Rattle.sheet_laws.proofs.Clash.{clash}
use Rattle.sheet_lines.specs.Models.{form_model, next_of, step_of, tail_of, TakenLine}
use Rattle.sheet.specs.Progress.{Fits, refused_by}
use Rattle.sheet_lines.specs.declared.line.Line.{Line}

-- a line that has a form
pub next-ok : (earlier ls : List format.Line) (k m : ℕ) (g : Form) → k ≡ length earlier → Some (Ok (m, g)) ≡ next_of k ls
    → (order_from earlier ls ≡ unless (line_fault m earlier (Some g)) (order_from (earlier ++ Some g ∷ []) (tail_of ls)))
    × (step_of k ls ≡ k + 1) × (m ≡ k + 1)
next-ok earlier [] k m g n e = clash (cc)
next-ok earlier (None ∷ ls) k m g n e = clash (cc)
next-ok earlier (Some h ∷ ls) k m g n e =
    let q : (m, g) ≡ (k + 1, h) = cc in
    let a : m ≡ k + 1 = ap (λ (t : ℕ × Form). t.0) q in
    let b : g ≡ h = ap (λ (t : ℕ × Form). t.1) q in
    let c : length earlier + 1 ≡ m = ap (λ (i : ℕ). i + 1) (sym n) ∙ sym a in (
      ap (λ (i : ℕ). unless (line_fault i earlier (Some h)) (order_from (earlier ++ Some h ∷ []) ls)) c
          ∙ ap (λ (f : Form). unless (line_fault m earlier (Some f)) (order_from (earlier ++ Some f ∷ []) ls)) (sym b),
      refl,
      a,
    )

-- a line that was not refused, and one that was
pub refused-ok : (o : Option SheetFault) (x : Unit {0}) → Ok x ≡ refused_by o → o ≡ None
refused-ok None x e = refl
refused-ok (Some f) x e = clash (cc)

pub refused-err : (o : Option SheetFault) (f : SheetFault) → Err f ≡ refused_by o → o ≡ Some f
refused-err None f e = clash (cc)
refused-err (Some g) f e = cc

some-start : (xs : List ℕ) → is_start xs ≡ true → 1 ≤ length xs
some-start [] e = clash (cc)
some-start (x ∷ xs) e = omega arith

short-name : (xs : List ℕ) → is_name xs ≡ true → length xs ≤ 32
short-name [] e = omega arith
short-name (x ∷ xs) e =
    leb-true (length (x ∷ xs)) 32 (and_parts (leb (length (x ∷ xs)) 32) (all_graphic (x ∷ xs)) e).0

form-fits : (text : List ℕ) (f : Form) → HasForm text f → Fits f
form-fits text blank h = tt
form-fits text comment h = tt
form-fits text (cipher c) h = tt
form-fits text (body b) h = (some-start b.start h.2, short-name b.name h.4)

-- what is taken for a line that has a form
pub taken-line : (before after : List ℕ) (item : Result Line SheetFault) (l : Line) → item ≡ Ok l → TakenLine before after (Some item)
    → Fits (form_model l.kind) × (length after < length before)
taken-line before after item l e t =
    let p : TakenLine before after (Some (Ok l)) = subst (λ (i : Result Line SheetFault). TakenLine before after (Some i)) e t in
    let n : length before ≡ length (p.0 ++ 10 ∷ after) = ap length p.1 in
    let m : length (p.0 ++ 10 ∷ after) ≡ length p.0 + length (10 ∷ after) = length-append p.0 (10 ∷ after) in
    (form-fits p.0 (form_model l.kind) p.2, omega arith)
