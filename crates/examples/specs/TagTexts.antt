-- Worked examples of tags: which subkey the tag of a short body takes.
use Rattle.std.specs.Prelude.{◌≡◌, ℕ, ◌⊎◌, List, length}
use Rattle.block.specs.Blocks.{Meaning}
use Rattle.modes_spec.specs.Mac.{subkey1, subkey2, last_subkey}
use Rattle.sheet_format.specs.Orders.{BodyOrder, Order}
use Rattle.set_format.specs.Sets.{FitsEntry, tag_text}

-- a sealed length of 3 gives a text of 64 bytes and K1; 4 gives 65 and K2, for either block length of the tag cipher
abbrev pub TagTextsAndSubkeys : Type 0
TagTextsAndSubkeys =
    (t : Meaning) (o : Order) (k : ℕ) (b : BodyOrder) (bytes : List ℕ) → (t.size ≡ 8) ⊎ (t.size ≡ 16) → FitsEntry b
    → (length bytes ≡ 3 → (length (tag_text o t.size k b bytes) ≡ 64) × (last_subkey t (tag_text o t.size k b bytes) ≡ subkey1 t))
    × (length bytes ≡ 4 → (length (tag_text o t.size k b bytes) ≡ 65) × (last_subkey t (tag_text o t.size k b bytes) ≡ subkey2 t))
