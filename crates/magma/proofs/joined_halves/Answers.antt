-- The bytes of the two words.
use Rattle.std.proofs.Common.{rules}
use Rattle.magma.specs.Magma.{joined_halves}
use Rattle.magma.proofs.joined_halves.Goals as goal

pub returns : goal.returns
unfolding joined_halves
returns c = search rules
