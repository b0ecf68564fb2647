-- The table of rows is the one of the definitions.
use Rattle.std.proofs.Common.{rules}
use Rattle.magma.specs.Magma.{rows}
use Rattle.magma.proofs.tables.row_value.Goals as goal

pub returns : goal.returns
unfolding rows
returns c = search rules
