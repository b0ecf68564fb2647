use Rattle.std.proofs.Common.{arith}
use Rattle.modes_spec.proofs.Texts.{joined-front-step}
use Rattle.modes.proofs.bytes.join_front.Goals as goal

pub loop-i-preserved : goal.loop-i-preserved
loop-i-preserved c =
    joined-front-step c.args.bytes.now c.args.more.now c.loop-i.bytes c.loop-i.i (omega arith) (omega arith) c.loop-i.invariant
