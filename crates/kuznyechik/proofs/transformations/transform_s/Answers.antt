use Rattle.std.proofs.Common.{rules}
use Rattle.kuznyechik_spec.specs.Kuznyechik.{substitution, transform_s}
use Rattle.block.proofs.Arrays.{mapped}
use Rattle.kuznyechik.proofs.transformations.transform_s.Goals as goal

pub returns : goal.returns
unfolding transform_s
returns c = mapped substitution 0 (search rules) c.map.ensures.items (λ p q x y k. search rules)
