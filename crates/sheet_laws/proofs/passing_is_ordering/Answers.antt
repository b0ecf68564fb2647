-- The law of passing, from its proof.
use Rattle.sheet_laws.proofs.Passing.{orders-if-passes}
use Rattle.sheet_laws.proofs.passing_is_ordering.Goals as goal

pub returns : goal.returns
returns c = orders-if-passes
