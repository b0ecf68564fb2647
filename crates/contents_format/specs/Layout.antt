-- The contents of a set: a header of four bytes, then an entry of 56 bytes for each body.
use Rattle.std.specs.Prelude.{ℕ, ◌-◌, ◌/◌, ◌%◌, List, [], ◌∷◌, ◌++◌, length, replicate}
use Rattle.std.specs.List.{flat_map}
use Rattle.sheet_format.specs.Orders.{BodyOrder, Order}
use Rattle.sheet_format.specs.Sizes.{block_length, start_digits}
use Rattle.sheet_format.specs.declared.Mode.{Mode}
use Rattle.sheet_format.specs.declared.Mode.TheVariants.{Ctr, Cbc}

-- the bytes of START, two digits a byte; n is the block length
abbrev pub start_length : Mode → ℕ → ℕ
start_length mode n = start_digits mode n / 2

abbrev pub mode_number : Mode → ℕ
mode_number Ctr = 1
mode_number Cbc = 2

-- a number in four bytes, the highest first
abbrev pub four_bytes : ℕ → List ℕ
four_bytes x = (x / 16777216 % 256) ∷ (x / 65536 % 256) ∷ (x / 256 % 256) ∷ (x % 256) ∷ []

-- filled up with zeros behind, to k bytes
abbrev pub filled : ℕ → List ℕ → List ℕ
filled k xs = xs ++ replicate (k - length xs) 0

-- mode, length of name, two zeros, L, START, name
abbrev pub entry_of : BodyOrder → List ℕ
entry_of b =
    mode_number b.mode ∷ length b.name ∷ 0 ∷ 0 ∷ (four_bytes b.len ++ (filled 16 b.start ++ filled 32 b.name))

-- edition 1, block length n of the body cipher, number of bodies, block length m of the tag cipher
abbrev pub header_of : Order → ℕ → List ℕ
header_of o m = 1 ∷ block_length o.cipher ∷ length o.bodies ∷ m ∷ []

abbrev pub contents_of : Order → ℕ → List ℕ
contents_of o m = header_of o m ++ flat_map entry_of o.bodies
