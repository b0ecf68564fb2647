use Rattle.std.proofs.Common.{◌≡◌, ◌+◌, ◌≤◌, drop}
use Rattle.sheet_format.specs.Orders.{bad_line}
use Rattle.sheet.proofs.checking.check_bytes.Given as goal

abbrev pub invariant-loop-b : goal.invariant-loop-b
invariant-loop-b l = (bad_line l.line (drop l.b-index l.sheet) ≡ bad_line 1 l.sheet) × (l.line ≤ l.b-index + 1)
