use Rattle.std.proofs.Common.{rules}
use Rattle.kuznyechik_spec.specs.Kuznyechik.{inverse_r, inverse_l}
use Rattle.kuznyechik.proofs.transformations.inverse_l.Goals as goal

pub returns : goal.returns
unfolding inverse_l
returns c = c.sixteen_steps.ensures inverse_r (λ x y k. search rules)
