-- The wide table passes the test.
use Rattle.magma.specs.Magma.{rows}
use Rattle.magma.specs.Tables.{wide_entry}
use Rattle.magma.proofs.Tested.{tested}
use Rattle.magma.proofs.tables.wide_table.Goals as goal

pub returns : goal.returns
unfolding rows wide_entry
returns c = tested _ tt
