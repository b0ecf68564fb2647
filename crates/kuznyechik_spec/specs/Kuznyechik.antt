-- The block cipher Kuznyechik, as the standard defines it. A block is the list of its sixteen bytes, a15 first; a key is the list of
-- its thirty-two bytes, the highest first. The numbers in brackets are those of the standard's formulas.
use Rattle.std.specs.Prelude.{◌≡◌, ℕ, zero, suc, ◌+◌, ◌/◌, ◌%◌, ◌<◌, Bool, true, cond, ◌&&◌, List, [], ◌∷◌, ◌++◌, map, length, take, drop, ◌==◌, bit_xor, slice_index}
use Rattle.std.specs.Simd.Lanes.{zip2, all_below}
use Rattle.block.specs.Blocks.{Meaning}
use Rattle.kuznyechik_spec.specs.Field.{multiply}

-- ---- section 4.1, the parameters

-- π
unfoldable pub substitutions : List ℕ
substitutions =
    252 ∷ 238 ∷ 221 ∷ 17 ∷ 207 ∷ 110 ∷ 49 ∷ 22 ∷ 251 ∷ 196 ∷ 250 ∷ 218 ∷ 35 ∷ 197 ∷ 4 ∷ 77 ∷
    233 ∷ 119 ∷ 240 ∷ 219 ∷ 147 ∷ 46 ∷ 153 ∷ 186 ∷ 23 ∷ 54 ∷ 241 ∷ 187 ∷ 20 ∷ 205 ∷ 95 ∷ 193 ∷
    249 ∷ 24 ∷ 101 ∷ 90 ∷ 226 ∷ 92 ∷ 239 ∷ 33 ∷ 129 ∷ 28 ∷ 60 ∷ 66 ∷ 139 ∷ 1 ∷ 142 ∷ 79 ∷
    5 ∷ 132 ∷ 2 ∷ 174 ∷ 227 ∷ 106 ∷ 143 ∷ 160 ∷ 6 ∷ 11 ∷ 237 ∷ 152 ∷ 127 ∷ 212 ∷ 211 ∷ 31 ∷
    235 ∷ 52 ∷ 44 ∷ 81 ∷ 234 ∷ 200 ∷ 72 ∷ 171 ∷ 242 ∷ 42 ∷ 104 ∷ 162 ∷ 253 ∷ 58 ∷ 206 ∷ 204 ∷
    181 ∷ 112 ∷ 14 ∷ 86 ∷ 8 ∷ 12 ∷ 118 ∷ 18 ∷ 191 ∷ 114 ∷ 19 ∷ 71 ∷ 156 ∷ 183 ∷ 93 ∷ 135 ∷
    21 ∷ 161 ∷ 150 ∷ 41 ∷ 16 ∷ 123 ∷ 154 ∷ 199 ∷ 243 ∷ 145 ∷ 120 ∷ 111 ∷ 157 ∷ 158 ∷ 178 ∷ 177 ∷
    50 ∷ 117 ∷ 25 ∷ 61 ∷ 255 ∷ 53 ∷ 138 ∷ 126 ∷ 109 ∷ 84 ∷ 198 ∷ 128 ∷ 195 ∷ 189 ∷ 13 ∷ 87 ∷
    223 ∷ 245 ∷ 36 ∷ 169 ∷ 62 ∷ 168 ∷ 67 ∷ 201 ∷ 215 ∷ 121 ∷ 214 ∷ 246 ∷ 124 ∷ 34 ∷ 185 ∷ 3 ∷
    224 ∷ 15 ∷ 236 ∷ 222 ∷ 122 ∷ 148 ∷ 176 ∷ 188 ∷ 220 ∷ 232 ∷ 40 ∷ 80 ∷ 78 ∷ 51 ∷ 10 ∷ 74 ∷
    167 ∷ 151 ∷ 96 ∷ 115 ∷ 30 ∷ 0 ∷ 98 ∷ 68 ∷ 26 ∷ 184 ∷ 56 ∷ 130 ∷ 100 ∷ 159 ∷ 38 ∷ 65 ∷
    173 ∷ 69 ∷ 70 ∷ 146 ∷ 39 ∷ 94 ∷ 85 ∷ 47 ∷ 140 ∷ 163 ∷ 165 ∷ 125 ∷ 105 ∷ 213 ∷ 149 ∷ 59 ∷
    7 ∷ 88 ∷ 179 ∷ 64 ∷ 134 ∷ 172 ∷ 29 ∷ 247 ∷ 48 ∷ 55 ∷ 107 ∷ 228 ∷ 136 ∷ 217 ∷ 231 ∷ 137 ∷
    225 ∷ 27 ∷ 131 ∷ 73 ∷ 76 ∷ 63 ∷ 248 ∷ 254 ∷ 141 ∷ 83 ∷ 170 ∷ 144 ∷ 202 ∷ 216 ∷ 133 ∷ 97 ∷
    32 ∷ 113 ∷ 103 ∷ 164 ∷ 45 ∷ 43 ∷ 9 ∷ 91 ∷ 203 ∷ 155 ∷ 37 ∷ 208 ∷ 190 ∷ 229 ∷ 108 ∷ 82 ∷
    89 ∷ 166 ∷ 116 ∷ 210 ∷ 230 ∷ 244 ∷ 180 ∷ 192 ∷ 209 ∷ 102 ∷ 175 ∷ 194 ∷ 57 ∷ 75 ∷ 99 ∷ 182 ∷ []

unfoldable pub substitution : ℕ → ℕ
substitution a = slice_index substitutions a

-- the place at which the list has v, counted from i
unfoldable pub place_of : ℕ → ℕ → List ℕ → ℕ
place_of v i [] = i
place_of v i (x ∷ xs) = cond (x == v) i (place_of v (suc i) xs)

-- the inverse of π: the place at which its table has v
unfoldable pub substitution_inverse : ℕ → ℕ
substitution_inverse v = place_of v 0 substitutions

-- a table of the inverse of π
pub record InverseTable (t : List ℕ) : Type 0 where
  pub at : (v : ℕ) → v < 256 → slice_index t v ≡ substitution_inverse v

-- the sum, in the field, of the products of the elements at the same place
unfoldable pub dot_product : List ℕ → List ℕ → ℕ
dot_product [] xs = 0
dot_product (c ∷ cs) [] = 0
dot_product (c ∷ cs) (x ∷ xs) = bit_xor (multiply c x) (dot_product cs xs)

unfoldable pub coefficients : List ℕ
coefficients = 148 ∷ 32 ∷ 133 ∷ 16 ∷ 194 ∷ 192 ∷ 1 ∷ 251 ∷ 1 ∷ 192 ∷ 194 ∷ 16 ∷ 133 ∷ 32 ∷ 148 ∷ 1 ∷ []

-- l (1)
unfoldable pub linear : List ℕ → ℕ
linear a = dot_product coefficients a

-- ---- section 4.2, the transformations

-- X[k] (2)
unfoldable pub add_key : List ℕ → List ℕ → List ℕ
add_key k a = zip2 bit_xor k a

-- S (3) and its inverse (4)
unfoldable pub transform_s : List ℕ → List ℕ
transform_s a = map substitution a

unfoldable pub inverse_s : List ℕ → List ℕ
inverse_s a = map substitution_inverse a

-- R (5): l in front, and the last byte dropped
unfoldable pub transform_r : List ℕ → List ℕ
transform_r a = linear a ∷ take 15 a

-- f, n times
unfoldable pub repeated : ℕ → (List ℕ → List ℕ) → List ℕ → List ℕ
repeated zero f a = a
repeated (suc n) f a = repeated n f (f a)

-- L (6)
unfoldable pub transform_l : List ℕ → List ℕ
transform_l a = repeated 16 transform_r a

-- the inverse of R (7): the first byte dropped, and at the end l of the bytes with the first put last
unfoldable pub inverse_r : List ℕ → List ℕ
inverse_r [] = []
inverse_r (b ∷ bs) = bs ++ (linear (bs ++ (b ∷ [])) ∷ [])

-- the inverse of L (8)
unfoldable pub inverse_l : List ℕ → List ℕ
inverse_l a = repeated 16 inverse_r a

-- LSX[k]
unfoldable pub lsx : List ℕ → List ℕ → List ℕ
lsx k a = transform_l (transform_s (add_key k a))

-- two blocks (a1, a0)
pub record Halves : Type 0 where
  pub left : List ℕ
  pub right : List ℕ

abbrev pub halves : List ℕ → List ℕ → Halves
halves x y = record { left = x; right = y }

-- F[k] (9)
unfoldable pub feistel_round : List ℕ → Halves → Halves
feistel_round k t = halves (add_key (lsx k t.left) t.right) t.left

-- ---- section 4.3, the key schedule

-- the n bytes of the number i, the highest first, before those of tail
unfoldable pub bytes_of : ℕ → ℕ → List ℕ → List ℕ
bytes_of zero i tail = tail
bytes_of (suc n) i tail = bytes_of n (i / 256) (i % 256 ∷ tail)

-- the block whose number is i
unfoldable pub block_of : ℕ → List ℕ
block_of i = bytes_of 16 i []

-- C_i (10)
unfoldable pub iteration_constant : ℕ → List ℕ
iteration_constant i = transform_l (block_of i)

-- F[C_(i+n-1)] .. F[C_i]
unfoldable pub feistel_rounds : ℕ → ℕ → Halves → Halves
feistel_rounds zero i t = t
feistel_rounds (suc n) i t = feistel_rounds n (suc i) (feistel_round (iteration_constant i) t)

-- m pairs of round keys, the first of them t, and the next by F of eight constants from C_i on
unfoldable pub schedule : ℕ → ℕ → Halves → List (List ℕ)
schedule zero i t = []
schedule (suc m) i t = t.left ∷ t.right ∷ schedule m (i + 8) (feistel_rounds 8 i t)

-- K1 to K10 (11)
unfoldable pub round_keys : List ℕ → List (List ℕ)
round_keys key = schedule 5 1 (halves (take 16 key) (drop 16 key))

-- ---- section 4.4, E and D, by a list of round keys, K1 first

-- E (12)
unfoldable pub encipher : List (List ℕ) → List ℕ → List ℕ
encipher [] a = a
encipher (k ∷ []) a = add_key k a
encipher (k ∷ k2 ∷ ks) a = encipher (k2 ∷ ks) (lsx k a)

-- D (13)
unfoldable pub decipher : List (List ℕ) → List ℕ → List ℕ
decipher [] a = a
decipher (k ∷ []) a = add_key k a
decipher (k ∷ k2 ∷ ks) a = add_key k (inverse_s (inverse_l (decipher (k2 ∷ ks) a)))

-- ---- the cipher

-- the meaning of the cipher with these round keys
abbrev pub with_round_keys : List (List ℕ) → Meaning
with_round_keys ks = record { size = 16; forward = encipher ks; inverse = decipher ks }

-- the meaning of Kuznyechik with this key
abbrev pub kuznyechik : List ℕ → Meaning
kuznyechik key = with_round_keys (round_keys key)

-- ---- round keys that are blocks, as a test

unfoldable pub is_block : List ℕ → Bool
is_block a = length a == 16 && all_below 256 a

unfoldable pub are_blocks : List (List ℕ) → Bool
are_blocks [] = true
are_blocks (k ∷ ks) = is_block k && are_blocks ks
