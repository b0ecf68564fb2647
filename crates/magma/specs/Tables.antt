-- What the wide table holds.
use Rattle.std.specs.Prelude.{◌≡◌, ℕ, ◌+◌, ◌*◌, ◌/◌, ◌%◌, ◌^◌, ◌<◌, List, [], slice_index, slice_index_or}
use Rattle.magma.specs.Magma.{row_at, rotated}

-- t on byte p alone: its low half by row 2p, its high half by row 2p + 1
abbrev pub byte_at : ℕ → ℕ → ℕ
byte_at p v = 16 * row_at (2 * p + 1) (v / 16) + row_at (2 * p) (v % 16)

-- at its place in the word, rotated left by 11 bits
unfoldable pub wide_entry : ℕ → ℕ → ℕ
wide_entry p v = rotated (byte_at p v * 256 ^ p)

-- the entry of each place and value
pub record Holds (table : List (List ℕ)) : Type 0 where
  pub at : (p v : ℕ) → p < 4 → v < 256 → slice_index (slice_index_or table p []) v ≡ wide_entry p v
