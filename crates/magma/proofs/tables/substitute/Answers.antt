-- t's loop goes on by one half byte.
use Rattle.std.proofs.Common.{refl, ◌∙◌, arith}
use Rattle.magma.specs.Magma.{rows}
use Rattle.magma.specs.Rows.{next, done}
use Rattle.magma.proofs.tables.substitute.Goals as goal

pub loop-i-init : goal.loop-i-init
unfolding rows
loop-i-init c = refl

pub loop-i-preserved : goal.loop-i-preserved
loop-i-preserved c =
    next c.args.a c.loop-i.i c.loop-i.out c.from.result (omega arith) (omega arith) c.loop-i.invariant
    (c.from.ensures ∙ c.row_value.ensures)

pub returns : goal.returns
returns c = done c.args.a c.loop-i.i c.loop-i.out c.loop-i-test.false c.loop-i.invariant
