use Rattle.std.proofs.Common.{refl}
use Rattle.std.specs.Fmt.{digits}
use Rattle.examples.proofs.listing_examples_hold.Goals as goal

pub returns : goal.returns
unfolding digits
returns c = record { accepted = refl; refused = refl }
