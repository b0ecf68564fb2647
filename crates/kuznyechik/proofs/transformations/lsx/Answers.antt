use Rattle.std.proofs.Common.{rules}
use Rattle.kuznyechik_spec.specs.Kuznyechik.{lsx}
use Rattle.kuznyechik.proofs.transformations.lsx.Goals as goal

pub returns : goal.returns
unfolding lsx
returns c = search rules
