-- The round key of each place.
use Rattle.std.proofs.Common.{arith}
use Rattle.magma.specs.Bytes.{in_order, in-reverse}
use Rattle.magma.proofs.round_key.Goals as goal

pub returns-then-i-lt24 : goal.returns-then-i-lt24
returns-then-i-lt24 c = in_order c.args.words.now c.args.i (omega arith) (omega arith)

pub returns-else-i-lt24 : goal.returns-else-i-lt24
returns-else-i-lt24 c = in-reverse c.args.words.now c.args.i (omega arith) (omega arith) (omega arith)
