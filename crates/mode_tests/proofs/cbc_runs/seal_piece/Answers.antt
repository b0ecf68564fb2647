use Rattle.std.proofs.Common.{◌≡◌, ℕ, List, ◌++◌, take, sym, ap, ◌∙◌, subst, arith}
use Rattle.std.proofs.lemmas.List.{take_at}
use Rattle.modes.specs.CbcState.{sealed_so_far}
use Rattle.mode_tests.specs.Runs.{TaggedAt}
use Rattle.mode_tests.proofs.cbc_runs.seal_piece.Goals as goal

pub returns : goal.returns
returns g c =
    let k = c.in-Ok.count in
    let after : c.as_slice.result.now ≡ take k c.feed.new.out =
    c.as_slice.ensures.value ∙ c.truncate.ensures.items ∙ ap (take k) (take_at c.feed.new.out _ _ (omega arith)) in
    record {
      sealed = λ m o iv taken s t at out.
          let j = c.in-Ok.ensures.after.0 m iv taken s at in
          let e : sealed_so_far m iv (taken ++ c.args.piece.now) ≡ sealed_so_far m iv taken ++ c.as_slice.result.now =
          j.1 ∙ ap (λ (x : List ℕ). sealed_so_far m iv taken ++ x) (sym after) in
          (j.0, subst (λ (x : List ℕ). TaggedAt o x c.push.new.self) (sym e) (c.in_ok-push.ensures.pushed o (sealed_so_far m iv taken) t out));
      same = c.feed.ensures.same;
      tag_same = c.push.ensures.same;
    }
