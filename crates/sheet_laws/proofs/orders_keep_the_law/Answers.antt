-- The law of answers, from its proof.
use Rattle.sheet_laws.proofs.Law.{keeps-the-law}
use Rattle.sheet_laws.proofs.orders_keep_the_law.Goals as goal

pub returns : goal.returns
returns c = keeps-the-law
