use native.Mathlib.Omega.{arith}
use Rattle.kuznyechik_spec.proofs.Loops.{times_x-low, times_x-high}
use Rattle.kuznyechik.proofs.transformations.times_x.Goals as goal

pub returns-then-a-lt128 : goal.returns-then-a-lt128
returns-then-a-lt128 c = times_x-low c.args.a (omega arith)

pub returns-else-a-lt128 : goal.returns-else-a-lt128
returns-else-a-lt128 c = times_x-high c.args.a (omega arith) (omega arith)
