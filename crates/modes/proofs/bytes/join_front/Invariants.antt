use Rattle.std.proofs.Common.{◌≡◌, take}
use Rattle.modes_spec.specs.Texts.{joined_front}
use Rattle.modes.proofs.bytes.join_front.Given as goal

abbrev pub invariant-loop-i : goal.invariant-loop-i
invariant-loop-i l = l.bytes ≡ joined_front l.initial.bytes (take l.i l.more)
