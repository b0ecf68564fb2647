use Rattle.std.proofs.Common.{rules}
use Rattle.kuznyechik_spec.specs.Kuznyechik.{substitution_inverse, inverse_s}
use Rattle.block.proofs.Arrays.{mapped}
use Rattle.kuznyechik.proofs.transformations.inverse_s.Goals as goal

pub returns : goal.returns
unfolding inverse_s
returns c = mapped substitution_inverse 0 (search rules) c.map.ensures.items (λ p q x y k. search rules)
