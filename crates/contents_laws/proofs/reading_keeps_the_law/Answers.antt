-- The law of reading, from its proof.
use Rattle.contents_laws.proofs.Law.{reading-keeps-law}
use Rattle.contents_laws.proofs.reading_keeps_the_law.Goals as goal

pub returns : goal.returns
returns c = reading-keeps-law
