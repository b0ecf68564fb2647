use Rattle.block.specs.Blocks.{Same}
use Rattle.mode_bench.proofs.measure_tagged_ctr.Given as goal

abbrev pub invariant-loop : goal.invariant-loop
invariant-loop g l =
    Same (g.C.BlockCipher.meaning l.initial.cipher) (g.C.BlockCipher.meaning l.cipher)
    × Same (g.C.BlockCipher.meaning l.initial.tag_cipher) (g.C.BlockCipher.meaning l.tag_cipher)
