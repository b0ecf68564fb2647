-- The MAC of GOST R 34.13-2015, of a whole block.
use Rattle.std.specs.Prelude.{ℕ, ◌+◌, ◌-◌, ◌*◌, ◌/◌, ◌%◌, Bool, cond, List, [], ◌∷◌, length, drop, ◌==◌, bit_xor, nat_le}
use Rattle.block.specs.Blocks.{Meaning}
use Rattle.modes_spec.specs.Cbc.{chained}
use Rattle.modes_spec.specs.Texts.{◌⊕◌, filled, zeros}

-- the constant B: 1b for blocks of 8 bytes, 87 for 16
abbrev pub constant_b : ℕ → ℕ
constant_b n = cond (n == 8) 27 135

-- a block as a number of 8n bits, shifted left by one bit
abbrev pub shifted : List ℕ → List ℕ
shifted [] = []
shifted (x ∷ []) = (x * 2 % 256) ∷ []
shifted (x ∷ y ∷ zs) = (x * 2 % 256 + y / 128) ∷ shifted (y ∷ zs)

-- x joined to the last byte
abbrev pub joined_last : ℕ → List ℕ → List ℕ
joined_last x [] = []
joined_last x (y ∷ []) = bit_xor y x ∷ []
joined_last x (y ∷ z ∷ zs) = y ∷ joined_last x (z ∷ zs)

-- whether the highest bit of a block is set
abbrev pub high_bit : List ℕ → Bool
high_bit [] = nat_le 128 0
high_bit (x ∷ xs) = nat_le 128 x

-- shifted, and joined with B if the bit that fell off was set
unfoldable pub doubled : ℕ → List ℕ → List ℕ
doubled n a = cond (high_bit a) (joined_last (constant_b n) (shifted a)) (shifted a)

-- K1 and K2, from R = E of the zero block
abbrev pub subkey1 : Meaning → List ℕ
subkey1 m = doubled m.size (m.forward (zeros m.size))

abbrev pub subkey2 : Meaning → List ℕ
subkey2 m = doubled m.size (subkey1 m)

-- how many blocks stand before the last, P_q, and P_q itself: 1 to n bytes, none of the empty text
abbrev pub blocks_before : ℕ → List ℕ → ℕ
blocks_before n text = (length text - 1) / n

abbrev pub last_block : ℕ → List ℕ → List ℕ
last_block n text = drop (n * blocks_before n text) text

-- whether the text ends on a whole block
abbrev pub ends_whole : ℕ → List ℕ → Bool
ends_whole n text = length (last_block n text) == n

-- procedure 3: a whole block as it is, any other filled by procedure 2
abbrev pub last_filled : ℕ → List ℕ → List ℕ
last_filled n text = cond (ends_whole n text) (last_block n text) (filled n (last_block n text))

-- K1 where the text ends on a whole block, else K2
abbrev pub last_subkey : Meaning → List ℕ → List ℕ
last_subkey m text = cond (ends_whole m.size text) (subkey1 m) (subkey2 m)

-- the MAC: E(P_q ⊕ C_(q-1) ⊕ K), with C_0 = 0
unfoldable pub mac : Meaning → List ℕ → List ℕ
mac m text =
    m.forward ((last_filled m.size text ⊕ chained m (zeros m.size) text (blocks_before m.size text)) ⊕ last_subkey m text)
