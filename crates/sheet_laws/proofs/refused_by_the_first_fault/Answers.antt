-- The laws of refusals, from their proofs.
use Rattle.sheet_laws.proofs.Refusals.{refused-by-first, orders-if-none-meets}
use Rattle.sheet_laws.proofs.refused_by_the_first_fault.Goals as goal

pub returns : goal.returns
returns c = record { refused = refused-by-first; orders = orders-if-none-meets }
