-- What is measured of a cipher: E or D.
use Rattle.std.specs.Prelude.{ℕ, List}
use Rattle.block.specs.Blocks.{Meaning}
use Rattle.cipher_bench.specs.declared.Way.{Way}
use Rattle.cipher_bench.specs.declared.Way.TheVariants.{Encipher, Decipher}

abbrev pub way_of : Way → Meaning → List ℕ → List ℕ
way_of Encipher m = m.forward
way_of Decipher m = m.inverse
