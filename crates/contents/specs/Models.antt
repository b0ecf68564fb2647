-- What contents mean.
use Rattle.std.specs.Prelude.{ℕ, cond, List, ◌++◌, length, drop, Some, None, Err, Option, Result, nat_le, nat_lt}
use Rattle.std.specs.List.{slice_get}
use Rattle.sheet_format.specs.Orders.{BodyOrder, map_ok, order_of}
use Rattle.sheet_format.specs.Sizes.{block_length}
use Rattle.sheet_format.specs.declared.SheetFault.{SheetFault}
use Rattle.sheet_format.specs.declared.SheetFault.TheVariants.{ShortWorkArea}
use Rattle.contents_format.specs.BlockLengths.{bytes_of as length_of}
use Rattle.contents_format.specs.Layout.{contents_of}
use Rattle.contents_format.specs.declared.BlockLength.{BlockLength}
use Rattle.contents_format.specs.Reading.{SetOrder, said_of}
use Rattle.contents.specs.Entries.{bodies_in, entries_in}
use Rattle.contents.specs.declared.Contents.{Contents}

-- the order, and the block length of the tag cipher
abbrev pub said_by : Contents → SetOrder
said_by c = said_of c.cipher c.tag_block (bodies_in (block_length c.cipher) (entries_in c.entries))

-- what a sheet orders, with a work area of that many bytes and a tag cipher of that block length
abbrev pub ordered_by : ℕ → List ℕ → BlockLength → Result SetOrder SheetFault
ordered_by work sheet m =
    cond (nat_lt work 1792) (Err ShortWorkArea) (map_ok (λ o. record { order = o; tag = length_of m }) (order_of sheet))

-- the bytes that open the set
abbrev pub bytes_of : Contents → List ℕ
bytes_of c = contents_of (said_by c).order (said_by c).tag

-- the body with that number, from 0
abbrev pub body_at : Contents → ℕ → Option BodyOrder
body_at c i = slice_get (said_by c).order.bodies i

-- how many bytes are written to an output of that many bytes: all, or none where they do not fit
abbrev pub written_length : List ℕ → ℕ → Option ℕ
written_length xs room = cond (nat_le (length xs) room) (Some (length xs)) None

-- the output afterwards: the bytes in front, and the rest as it was; as it was where they do not fit
abbrev pub written : List ℕ → List ℕ → List ℕ
written xs out = cond (nat_le (length xs) (length out)) (xs ++ drop (length xs) out) out
