use Rattle.std.proofs.Common.{◌≡◌, ◌++◌, take, drop}
use Rattle.modes_spec.specs.Mac.{shifted}
use Rattle.modes.proofs.mac.double.Given as goal

abbrev pub invariant-loop-i : goal.invariant-loop-i
invariant-loop-i l = l.block ≡ take l.i (shifted l.initial.block) ++ drop l.i l.initial.block
