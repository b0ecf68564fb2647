-- What is proved of the definitions of Magma: it is a lawful block cipher under every key.
use Rattle.std.specs.Prelude.{ℕ, List}
use Rattle.block.specs.Blocks.{Block, Lawful}
use Rattle.magma.specs.Magma.{magma}

-- under every key of 32 bytes D undoes E, and E undoes D
pub record MagmaLaws : Type 0 where
  pub lawful : (key : List ℕ) → Block 32 key → Lawful (magma key)
