-- What t's loop keeps: the half bytes above i are done.
use Rattle.std.proofs.Common.{◌≡◌, ◌*◌, ◌/◌, ◌^◌, drop}
use Rattle.magma.specs.Magma.{substituted, rows}
use Rattle.magma.proofs.tables.substitute.Given as goal

abbrev pub invariant-loop-i : goal.invariant-loop-i
invariant-loop-i l = l.out ≡ substituted (drop l.i rows) (l.a / 2 ^ (4 * l.i))
