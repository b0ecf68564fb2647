use Rattle.std.proofs.Common.{◌≡◌, ◌<◌}
use Rattle.block.specs.Blocks.{Same}
use Rattle.cipher_bench.proofs.replace_all.Given as goal

abbrev pub invariant-loop-block : goal.invariant-loop-block
invariant-loop-block g l =
    Same (g.C.BlockCipher.meaning l.initial.cipher) (g.C.BlockCipher.meaning l.cipher)
    × (0 < l.block-index → (g.C.BlockCipher.meaning l.initial.cipher).size ≡ g.row.N)
