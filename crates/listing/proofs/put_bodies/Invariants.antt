use Rattle.std.proofs.Common.{◌≡◌, ◌+◌, ◌≤◌, ◌++◌, map, vec_items}
use Rattle.sheet_format.specs.Lines.{lines_of}
use Rattle.sheet_format.specs.Orders.{bodies_in, ordered}
use Rattle.sheet_format.specs.Sizes.{block_length}
use Rattle.listing.specs.Listing.{bodies_text}
use Rattle.listing.proofs.put_bodies.Given as goal

-- what is written, and the lines of the bodies that are left, make up the whole text
abbrev pub invariant-loop-item : goal.invariant-loop-item
invariant-loop-item l =
    (l.bodies ≤ l.item-iterator.number)
    × (vec_items l.out ++ bodies_text (block_length l.cipher) (l.bodies + 1) (map ordered (bodies_in (lines_of l.item-iterator.rest.now)))
    ≡ vec_items l.initial.out ++ bodies_text (block_length l.cipher) 1 (map ordered (bodies_in (lines_of l.sheet))))
