use Rattle.std.proofs.Common.{◌≡◌, ◌-◌, ◌*◌, ◌≤◌, true, [], drop, length}
use Rattle.sheet_format.specs.Orders.{total_blocks}
use Rattle.sheet_format.specs.Sizes.{block_length}
use Rattle.contents_format.specs.Reading.{bodies_from}
use Rattle.contents.specs.Entries.{are_held, bodies_in, entries_in}
use Rattle.contents.proofs.reading.read_entries.Given as goal

-- the entries so far keep the rules, and what is left of the bytes goes on from them
abbrev pub invariant-loop-i : goal.invariant-loop-i
invariant-loop-i l =
    let n = block_length l.cipher in
    let es = entries_in l.entries in
    record {
      count : length es ≡ l.i;
      blocks : l.blocks ≡ total_blocks n (bodies_in n es);
      limit : l.blocks ≤ 1000000;
      held : are_held n es ≡ true;
      whole : bodies_from n (bodies_in n es) (l.count - l.i) (drop (56 * l.i) l.bytes) ≡ bodies_from n [] l.count l.bytes;
    }
