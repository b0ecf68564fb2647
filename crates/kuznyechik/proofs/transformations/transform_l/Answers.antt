use Rattle.std.proofs.Common.{rules}
use Rattle.kuznyechik_spec.specs.Kuznyechik.{transform_r, transform_l}
use Rattle.kuznyechik.proofs.transformations.transform_l.Goals as goal

pub returns : goal.returns
unfolding transform_l
returns c = c.sixteen_steps.ensures transform_r (λ x y k. search rules)
