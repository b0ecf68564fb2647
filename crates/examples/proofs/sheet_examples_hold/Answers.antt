use Rattle.std.proofs.Common.{refl}
use Rattle.examples.proofs.sheet_examples_hold.Goals as goal

pub returns : goal.returns
returns c =
    record {
      empty-ctr = refl;
      empty-cbc = refl;
      longest = refl;
      too_long = (refl, refl);
      most-blocks = refl;
      too_many_blocks = (refl, refl);
    }
