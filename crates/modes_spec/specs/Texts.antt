-- Texts of bytes: exclusive or, the blocks of a text, a number in bytes, and filling.
use Rattle.std.specs.Prelude.{ℕ, zero, suc, ◌+◌, ◌-◌, ◌*◌, ◌/◌, ◌%◌, List, [], ◌∷◌, ◌++◌, length, take, drop, replicate, bit_xor}
use Rattle.std.specs.Simd.Lanes.{zip2}

infixl 70 ◌⊕◌
-- exclusive or, byte by byte; the longer text is cut
abbrev pub ◌⊕◌ : List ℕ → List ℕ → List ℕ
a ⊕ b = zip2 bit_xor a b

-- the second text joined to the front of the first, which keeps its length
abbrev pub joined_front : List ℕ → List ℕ → List ℕ
joined_front xs [] = xs
joined_front [] (y ∷ ys) = []
joined_front (x ∷ xs) (y ∷ ys) = bit_xor x y ∷ joined_front xs ys

-- the block of a text at place i, from 0: n bytes, or as many as are left
abbrev pub block_at : ℕ → List ℕ → ℕ → List ℕ
block_at n text i = take n (drop (n * i) text)

-- how many blocks a text has, where the last one may be cut
abbrev pub blocks_in : ℕ → List ℕ → ℕ
blocks_in n text = (length text + (n - 1)) / n

-- f 0, f 1, .., f (q - 1), one after the other
unfoldable pub joined_to : (ℕ → List ℕ) → ℕ → List ℕ
joined_to f zero = []
joined_to f (suc q) = joined_to f q ++ f q

-- a number in k bytes, the highest first
unfoldable pub big_endian : ℕ → ℕ → List ℕ
big_endian zero i = []
big_endian (suc k) i = big_endian k (i / 256) ++ (i % 256 ∷ [])

abbrev pub zeros : ℕ → List ℕ
zeros k = replicate k 0

-- procedure 2: hexadecimal 80 and then zeros up to the end of a block of n bytes, always at least one byte
abbrev pub filled : ℕ → List ℕ → List ℕ
filled n text = text ++ (128 ∷ zeros (n - 1 - length text % n))
