use mathlib.Core.Path.{ap, ◌∙◌}
use native.Mathlib.Omega.{arith}
use lib.ListN.{set}
use Rattle.kuznyechik_spec.specs.Kuznyechik.{linear}
use Rattle.kuznyechik_spec.proofs.Loops.{rotated-left}
use Rattle.kuznyechik.proofs.transformations.inverse_r.Goals as goal

pub returns : goal.returns
returns c =
    ap (λ l. set l 15 c.linear.result) c.rotate_left.ensures.after
    ∙ rotated-left c.linear.result c.args.a (omega arith) (c.linear.ensures ∙ ap linear c.rotate_left.ensures.after)
