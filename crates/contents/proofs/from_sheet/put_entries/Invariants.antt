use Rattle.std.proofs.Common.{◌≡◌, ◌+◌, true, ◌++◌, map, length}
use Rattle.std.specs.List.{AllByRecursion}
use Rattle.sheet_format.specs.Lines.{lines_of}
use Rattle.sheet_format.specs.Orders.{bodies_in as bodies_named, ordered}
use Rattle.sheet_format.specs.Sizes.{block_length}
use Rattle.contents_laws.specs.BodyLines.{FitLine}
use Rattle.contents.specs.Entries.{are_held, bodies_in, entries_in}
use Rattle.contents.proofs.from_sheet.put_entries.Given as goal

-- the entries so far, and the bodies of the lines that are left, make up all bodies
abbrev pub invariant-loop-item : goal.invariant-loop-item
invariant-loop-item l =
    let n = block_length l.cipher in
    let es = entries_in l.entries in
    let left = bodies_named (lines_of l.item-iterator.rest.now) in
    let all = bodies_named (lines_of l.sheet) in
    record {
      count : length es + length left ≡ length all;
      bodies : bodies_in n es ++ map ordered left ≡ map ordered all;
      held : are_held n es ≡ true;
      fit : AllByRecursion (FitLine n) left;
    }
