use Rattle.std.proofs.Common.{◌≡◌, ◌^◌, ◌<◌, drop}
use Rattle.sheet_format.specs.Digits.{decimal_from}
use Rattle.sheet_lines.proofs.fields.decimal_value.Given as goal

abbrev pub invariant-loop-b : goal.invariant-loop-b
invariant-loop-b l = (decimal_from l.value (drop l.b-index l.digits) ≡ decimal_from 0 l.digits) × (l.value < 10 ^ l.b-index)
