use Rattle.std.proofs.Common.{◌≡◌, take, vec_items}
use Rattle.block.specs.Blocks.{Meaning, Same}
use Rattle.modes.specs.OpenState.{CbcOpenAt, opened_so_far}
use Rattle.mode_tests.proofs.Feeding.{Fed}
use Rattle.mode_tests.proofs.cbc_runs.open.Given as goal

abbrev pub invariant-loop-cut : goal.invariant-loop-cut
invariant-loop-cut g l =
    let m = g.C.BlockCipher.meaning l.initial.cipher in
    Same m (g.C.BlockCipher.meaning l.cipher)
    × Fed (λ taken. (p : Meaning) → Same p m → CbcOpenAt p (take p.size l.fn.feed.start.now) l.fn.extent.before taken l.opener × (vec_items l.out ≡ opened_so_far p (take p.size l.fn.feed.start.now) l.fn.extent.before taken)) l.left l.fn.feed.text.now
