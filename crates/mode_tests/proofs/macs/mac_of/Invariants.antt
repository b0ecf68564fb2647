use Rattle.block.specs.Blocks.{Meaning, Same}
use Rattle.modes.specs.MacState.{MacAt}
use Rattle.mode_tests.proofs.Feeding.{Fed}
use Rattle.mode_tests.proofs.macs.mac_of.Given as goal

abbrev pub invariant-loop-cut : goal.invariant-loop-cut
invariant-loop-cut g l =
    let m = g.C.BlockCipher.meaning l.initial.cipher in
    Same m (g.C.BlockCipher.meaning l.cipher) × Fed (λ taken. (o : Meaning) → Same o m → MacAt o taken l.state) l.rest l.text
