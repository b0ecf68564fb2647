use Rattle.std.proofs.Common.{◌≡◌, ◌+◌, ◌≤◌, List, length}
use Rattle.sheet_format.specs.Lines.{Line, lines_of}
use Rattle.sheet_format.specs.Orders.{order_from, order_of}
use Rattle.sheet.specs.Progress.{Stands}
use Rattle.sheet.proofs.checking.check_in.Given as goal

-- the lines read so far led to the state, and what is left gives the whole answer
abbrev pub invariant-loop-item : goal.invariant-loop-item
invariant-loop-item l =
    (earlier : List Line) × Stands l.progress earlier
    × (l.item-iterator.number ≡ length earlier)
    × (l.item-iterator.number + length l.item-iterator.rest.now ≤ 4096)
    × (order_from earlier (lines_of l.item-iterator.rest.now) ≡ order_of l.sheet)
    × (l.last ≡ length earlier)
