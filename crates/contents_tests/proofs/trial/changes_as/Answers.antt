use Rattle.std.proofs.Common.{◌+◌, ◌-◌, ◌*◌, drop, ◌∙◌, arith, below_more}
use Rattle.std.proofs.lemmas.List.{get_or-take, get_or-drop}
use Rattle.contents_tests.proofs.trial.changes_as.Goals as goal

pub loop-at-preserved : goal.loop-at-preserved
loop-at-preserved c =
    let first = 256 * c.loop-at.at in
    below_more _ _ c.loop-at.invariant
    (λ v less.
    c.byte_changes_as.ensures c.if-not-byte_changes_as.false v less
    ∙ get_or-take (first + 256 - first) (drop first c.args.marks.now) v 0 (omega arith)
    ∙ get_or-drop first c.args.marks.now v 0)
