use Rattle.block.specs.Blocks.{Same}
use Rattle.bench_speed.proofs.measure.Given as goal

abbrev pub invariant-loop : goal.invariant-loop
invariant-loop g l = Same (g.C.BlockCipher.meaning l.initial.cipher) (g.C.BlockCipher.meaning l.cipher)
