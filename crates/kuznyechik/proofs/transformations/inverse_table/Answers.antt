use Rattle.kuznyechik_spec.specs.Kuznyechik.{substitution_inverse, place_of, substitutions}
use Rattle.kuznyechik_spec.proofs.Loops.{inverse-tested}
use Rattle.kuznyechik.proofs.transformations.inverse_table.Goals as goal

pub returns : goal.returns
unfolding substitution_inverse place_of substitutions
returns c = inverse-tested _ tt
