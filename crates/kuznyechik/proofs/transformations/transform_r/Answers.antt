use mathlib.Core.Path.{ap, ◌∙◌}
use native.Mathlib.Omega.{arith}
use lib.ListN.{set}
use Rattle.kuznyechik_spec.proofs.Loops.{rotated-right}
use Rattle.kuznyechik.proofs.transformations.transform_r.Goals as goal

pub returns : goal.returns
returns c =
    ap (λ l. set l 0 c.linear.result) c.rotate_right.ensures.after
    ∙ rotated-right c.linear.result c.args.a (omega arith) c.linear.ensures
