use mathlib.Core.Path.{refl}
use Rattle.kuznyechik_spec.specs.Kuznyechik.{substitution, substitutions}
use Rattle.kuznyechik.proofs.transformations.substitution.Goals as goal

pub returns : goal.returns
unfolding substitution substitutions
returns c = refl
