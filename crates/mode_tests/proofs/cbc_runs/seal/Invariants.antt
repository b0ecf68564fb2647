use Rattle.std.proofs.Common.{take}
use Rattle.block.specs.Blocks.{Meaning, Same}
use Rattle.modes.specs.CbcState.{CbcAt, sealed_so_far}
use Rattle.mode_tests.specs.Runs.{TaggedAt}
use Rattle.mode_tests.proofs.Feeding.{Fed}
use Rattle.mode_tests.proofs.cbc_runs.seal.Given as goal

abbrev pub invariant-loop-cut : goal.invariant-loop-cut
invariant-loop-cut g l =
    let m = g.C.BlockCipher.meaning l.initial.cipher in
    let o = g.T.BlockCipher.meaning l.initial.tag_cipher in
    Same m (g.C.BlockCipher.meaning l.cipher)
    × Same o (g.T.BlockCipher.meaning l.tag_cipher)
    × Fed (λ taken. (p q : Meaning) → Same p m → Same q o → CbcAt p (take p.size l.fn.feed.start.now) taken l.sealer × TaggedAt q (sealed_so_far p (take p.size l.fn.feed.start.now) taken) l.out) l.rest l.fn.feed.text.now
