use Rattle.std.proofs.Common.{ℕ, ◌+◌, [], ◌∷◌, ◌++◌, Some, Err, Option, Result, sym, ap, ◌∙◌, arith}
use Rattle.std.proofs.lemmas.List.{length_push}
use Rattle.std.proofs.lemmas.Result.{err_from_is_err_and}
use Rattle.sheet_format.specs.Lines as format
use Rattle.sheet_format.specs.Lines.{lines_of}
use Rattle.sheet_format.specs.Orders.{line_fault, map_ok, order_from, summary, unless}
use Rattle.sheet_format.specs.declared.SheetFault.{SheetFault}
use Rattle.sheet_lines.specs.Models.{form_model, result_model, tail_of}
use Rattle.sheet_lines.specs.declared.line.Line.{Line}
use Rattle.sheet.proofs.Walk.{next-ok, refused-err, refused-ok, taken-line}
use Rattle.sheet.proofs.checking.check_in.Goals as goal

abbrev seen : Result Line SheetFault → Option (Result (ℕ × format.Form) SheetFault)
seen i = Some (result_model i)

pub loop-item-preserved : goal.loop-item-preserved
loop-item-preserved c =
    let inv = c.loop-item.invariant in
    let l = c.in_ok-line.line in
    let g = form_model l.kind in
    let step = c.in-Some.ensures.steps in
    let v = ap seen (sym c.in_ok-line.was) ∙ step.value in
    let e = next-ok inv.0 (lines_of c.loop-item.item-iterator.rest.now) c.loop-item.item-iterator.number l.number g inv.2 v in
    let t = taken-line c.loop-item.item-iterator.rest.now c.next.new.self.rest.now c.in-Some.item l
    c.in_ok-line.was step.parts in
    let n = step.number ∙ e.1 in
    let o = refused-ok (line_fault l.number inv.0 (Some g)) c.in_ok-take_line.field-0
    (c.in_ok-take_line.ensures.answer inv.0 inv.1) in (
      inv.0 ++ Some g ∷ [],
      c.in_ok-take_line.ensures.next inv.0 inv.1,
      n ∙ ap (λ (i : ℕ). i + 1) inv.2 ∙ sym (length_push inv.0 (Some g)),
      omega (arith, n, t.1, inv.3),
      ap (order_from (inv.0 ++ Some g ∷ [])) step.rest
          ∙ ap (λ (f : Option SheetFault). unless f (order_from (inv.0 ++ Some g ∷ []) (tail_of (lines_of c.loop-item.item-iterator.rest.now)))) (sym o)
          ∙ sym e.0 ∙ inv.4,
      e.2 ∙ ap (λ (i : ℕ). i + 1) inv.2 ∙ sym (length_push inv.0 (Some g)),
    )

pub returns-in_err-take_line : goal.returns-in_err-take_line
returns-in_err-take_line c =
    let inv = c.loop-item.invariant in
    let l = c.in_ok-line.line in
    let g = form_model l.kind in
    let f = c.in_err-take_line.field-0.0 in
    let p = err_from_is_err_and c.from_residual-in_err-take_line.result c.from_residual-in_err-take_line.ensures.1 in
    let v = ap seen (sym c.in_ok-line.was) ∙ c.in-Some.ensures.steps.value in
    let e = next-ok inv.0 (lines_of c.loop-item.item-iterator.rest.now) c.loop-item.item-iterator.number l.number g inv.2 v in
    let o = refused-err (line_fault l.number inv.0 (Some g)) f
    (c.in_err-take_line.ensures.answer inv.0 inv.1) in
    let rest = order_from (inv.0 ++ Some g ∷ []) (tail_of (lines_of c.loop-item.item-iterator.rest.now)) in
    p.1 ∙ ap Err p.2
    ∙ ap (map_ok summary) (ap (λ (f : Option SheetFault). unless f rest) (sym o) ∙ sym e.0 ∙ inv.4)
