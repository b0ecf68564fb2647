-- What a prepared Magma means.
use Rattle.block.specs.Blocks.{Meaning}
use Rattle.magma.specs.Magma.{cipher_of}
use Rattle.magma.specs.declared.Magma.{Magma}

abbrev pub meaning_of : Magma → Meaning
meaning_of c = cipher_of c.key.words
