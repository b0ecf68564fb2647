use Rattle.modes_spec.proofs.Cbc.{opens, comes-off, sealed-length}
use Rattle.modes_spec.proofs.cbc_opens_what_it_sealed.Goals as goal

pub returns : goal.returns
returns c = λ m iv text l b h. (opens m iv text l b h, comes-off m iv text l b h, sealed-length m iv text l b h)
