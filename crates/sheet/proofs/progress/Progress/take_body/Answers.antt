use Rattle.std.proofs.Common.{[], ◌∷◌, ◌++◌, Some, Err, sym, ap, ◌∙◌}
use Rattle.std.proofs.lemmas.Result.{err_from_is_err_and, IfOk-from_err}
use Rattle.sheet_format.specs.Lines.{body}
use Rattle.sheet_format.specs.Orders.{bodies_in, ciphers_in, line_fault}
use Rattle.sheet_lines.specs.Models.{body_model}
use Rattle.sheet.specs.Progress.{blocks_for, refused_by}
use Rattle.sheet.proofs.Steps.{stands-body, admitted-ok, admitted-err}
use Rattle.sheet.proofs.progress.Progress.take_body.Goals as goal

pub returns-in_err-blocks : goal.returns-in_err-blocks
returns-in_err-blocks c =
    let b = body_model c.args.body in
    let f = c.in_err-blocks.field-0.0 in
    let p = err_from_is_err_and c.from_residual.result c.from_residual.ensures.1 in
    record {
      answer = λ earlier st.
          p.1 ∙ ap Err p.2
          ∙ sym (ap refused_by (admitted-err (line_fault c.args.line earlier (Some (body b))) (blocks_for (ciphers_in earlier) (bodies_in earlier ++ b ∷ [])) f
          (c.in_err-blocks.ensures.value earlier st)));
      next = λ earlier st. IfOk-from_err c.from_residual.result _ c.from_residual.ensures.0;
    }

pub returns : goal.returns
returns c =
    let b = body_model c.args.body in
    let facts = c.in_ok-blocks.ensures in
    record {
      answer = λ earlier st.
          let q = admitted-ok (line_fault c.args.line earlier (Some (body b))) (blocks_for (ciphers_in earlier) (bodies_in earlier ++ b ∷ []))
          c.in_ok-blocks.blocks (facts.value earlier st) in
          sym (ap refused_by q.0);
      next = λ earlier st.
          let q = admitted-ok (line_fault c.args.line earlier (Some (body b))) (blocks_for (ciphers_in earlier) (bodies_in earlier ++ b ∷ []))
          c.in_ok-blocks.blocks (facts.value earlier st) in
          stands-body c.args.self.now earlier st b c.keep.new.self c.in_ok-blocks.blocks
          facts.cipher facts.limit q.1 (c.keep.ensures.kept (bodies_in earlier) st.kept);
    }
