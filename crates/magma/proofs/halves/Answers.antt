-- The two words of a block.
use Rattle.std.proofs.Common.{rules}
use Rattle.magma.specs.Magma.{halves}
use Rattle.magma.proofs.halves.Goals as goal

pub returns : goal.returns
unfolding halves
returns c = search rules
