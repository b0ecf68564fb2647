-- When a case of the table agrees with the definitions.
use Rattle.std.specs.Prelude.{◌≡◌, ℕ, ◌+◌, ◌*◌, ◌<◌, ◌⊎◌, List, ◌++◌, codes, length, Ok, slice_index, slice_set}
use Rattle.hex_digits.specs.Hex.{hex_bytes}
use Rattle.sheet_format.specs.Orders.{Order, order_of}
use Rattle.contents_format.specs.Layout.{contents_of}
use Rattle.contents_format.specs.Reading.{contents_read}
use Rattle.contents_tests.specs.Texts.{answer_text, mark_of}

-- ANSWER is the text of what the contents say
abbrev pub ReadsAs : List ℕ → List ℕ → Type 0
ReadsAs answer bytes = answer_text (contents_read bytes) ≡ answer

-- the bytes are the contents of what the sheet orders, with the block length m
abbrev pub OrderedBy : List ℕ → ℕ → List ℕ → Type 0
OrderedBy sheet m bytes = (o : Order) × (order_of sheet ≡ Ok o) × (contents_of o m ≡ bytes)

-- the bytes are the contents of a sheet
abbrev pub MadeOf : List ℕ → Type 0
MadeOf bytes = (sheet : List ℕ) × (m : ℕ) × OrderedBy sheet m bytes

-- the bytes with every value for each of them are answered as marked, 256 marks a byte
abbrev pub Changes : List ℕ → List ℕ → Type 0
Changes marks bytes =
    (i : ℕ) (v : ℕ) → i < length bytes → v < 256 → mark_of (contents_read (slice_set bytes i v)) ≡ slice_index marks (256 * i + v)

abbrev pub Tells : List ℕ → List ℕ → Type 0
Tells answer bytes = ReadsAs answer bytes ⊎ (MadeOf bytes ⊎ ((marks : List ℕ) × Changes marks bytes))

-- the same of contents in hexadecimal digits
abbrev pub Agrees : List ℕ → List ℕ → Type 0
Agrees answer text = Tells answer (hex_bytes text)

-- the case in a line, `ANSWER | CONTENTS`
abbrev pub HoldsIn : List ℕ → Type 0
HoldsIn line = (answer text : List ℕ) × (line ≡ answer ++ (codes " | " ++ text)) × Agrees answer text
