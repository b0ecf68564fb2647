-- The counter mode, ctr, of GOST R 34.13-2015.
use Rattle.std.specs.Prelude.{ℕ, ◌/◌, List, ◌++◌}
use Rattle.block.specs.Blocks.{Meaning}
use Rattle.modes_spec.specs.Texts.{◌⊕◌, block_at, blocks_in, joined_to, big_endian}

-- joining a text with a keystream of blocks of n bytes, wherever these come from: block by block, the last one cut
unfoldable pub joined_with : ℕ → (ℕ → List ℕ) → List ℕ → List ℕ
joined_with n keystream text = joined_to (λ i. block_at n text i ⊕ keystream i) (blocks_in n text)

-- counter block i, from 0: START of n/2 bytes, then i in n/2 bytes
abbrev pub counter_block : ℕ → List ℕ → ℕ → List ℕ
counter_block n start i = start ++ big_endian (n / 2) i

-- the keystream of ctr: E of the counter blocks
abbrev pub counter_stream : Meaning → List ℕ → ℕ → List ℕ
counter_stream m start i = m.forward (counter_block m.size start i)

-- enciphering and deciphering alike
abbrev pub ctr : Meaning → List ℕ → List ℕ → List ℕ
ctr m start text = joined_with m.size (counter_stream m start) text
