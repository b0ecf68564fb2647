-- The block cipher Magma: t, g, G, the round keys, E and D.
use Rattle.std.specs.Prelude.{ℕ, ◌+◌, ◌*◌, ◌/◌, ◌%◌, ◌^◌, cond, List, [], ◌∷◌, ◌++◌, reverse, Some, None, Option, bit_xor, nat_lt, slice_index, slice_index_or}
use Rattle.block.specs.Blocks.{Meaning}

-- the substitution of each half byte of a word, the lowest half byte's first
unfoldable pub rows : List (List ℕ)
rows =
    (12 ∷ 4 ∷ 6 ∷ 2 ∷ 10 ∷ 5 ∷ 11 ∷ 9 ∷ 14 ∷ 8 ∷ 13 ∷ 7 ∷ 0 ∷ 3 ∷ 15 ∷ 1 ∷ [])
    ∷ (6 ∷ 8 ∷ 2 ∷ 3 ∷ 9 ∷ 10 ∷ 5 ∷ 12 ∷ 1 ∷ 14 ∷ 4 ∷ 7 ∷ 11 ∷ 13 ∷ 0 ∷ 15 ∷ [])
    ∷ (11 ∷ 3 ∷ 5 ∷ 8 ∷ 2 ∷ 15 ∷ 10 ∷ 13 ∷ 14 ∷ 1 ∷ 7 ∷ 4 ∷ 12 ∷ 9 ∷ 6 ∷ 0 ∷ [])
    ∷ (12 ∷ 8 ∷ 2 ∷ 1 ∷ 13 ∷ 4 ∷ 15 ∷ 6 ∷ 7 ∷ 0 ∷ 10 ∷ 5 ∷ 3 ∷ 14 ∷ 9 ∷ 11 ∷ [])
    ∷ (7 ∷ 15 ∷ 5 ∷ 10 ∷ 8 ∷ 1 ∷ 6 ∷ 13 ∷ 0 ∷ 9 ∷ 3 ∷ 14 ∷ 11 ∷ 4 ∷ 2 ∷ 12 ∷ [])
    ∷ (5 ∷ 13 ∷ 15 ∷ 6 ∷ 9 ∷ 2 ∷ 12 ∷ 10 ∷ 11 ∷ 7 ∷ 8 ∷ 1 ∷ 4 ∷ 3 ∷ 14 ∷ 0 ∷ [])
    ∷ (8 ∷ 14 ∷ 2 ∷ 5 ∷ 6 ∷ 9 ∷ 1 ∷ 12 ∷ 15 ∷ 4 ∷ 11 ∷ 0 ∷ 13 ∷ 10 ∷ 3 ∷ 7 ∷ [])
    ∷ (1 ∷ 7 ∷ 14 ∷ 13 ∷ 0 ∷ 5 ∷ 8 ∷ 3 ∷ 4 ∷ 15 ∷ 10 ∷ 6 ∷ 9 ∷ 12 ∷ 11 ∷ 2 ∷ [])
    ∷ []

-- row i at x
abbrev pub row_at : ℕ → ℕ → ℕ
row_at i x = slice_index (slice_index_or rows i []) x

-- a number's half bytes from the lowest on, each by its row
abbrev pub substituted : List (List ℕ) → ℕ → ℕ
substituted [] a = 0
substituted (r ∷ rs) a = 16 * substituted rs (a / 16) + slice_index r (a % 16)

-- t: row i on half byte i
unfoldable pub t : ℕ → ℕ
t a = substituted rows a

-- a word rotated left by 11 bits
abbrev pub rotated : ℕ → ℕ
rotated x = (x * 2 ^ 11) % 2 ^ 32 + x / 2 ^ 21

-- g[k]
unfoldable pub g : ℕ → ℕ → ℕ
g k a = rotated (t ((a + k) % 2 ^ 32))

-- G[k] on the words a1, a0
abbrev pub round_g : ℕ → ℕ × ℕ → ℕ × ℕ
round_g k s = (s.1, bit_xor (g k s.1) s.0)

-- G*[k], the last round: no exchange
abbrev pub last_g : ℕ → ℕ × ℕ → ℕ × ℕ
last_g k s = (bit_xor (g k s.1) s.0, s.1)

-- G with each key in order, and G* with the last
unfoldable pub composed : List ℕ → ℕ × ℕ → ℕ × ℕ
composed [] s = s
composed (k ∷ []) s = last_g k s
composed (k ∷ (m ∷ ks)) s = composed (m ∷ ks) (round_g k s)

-- the word that four bytes from place i on spell, the highest first
abbrev pub word_at : List ℕ → ℕ → ℕ
word_at b i = slice_index b i * 16777216 + slice_index b (i + 1) * 65536 + slice_index b (i + 2) * 256 + slice_index b (i + 3)

-- a word's four bytes, the highest first
abbrev pub word_bytes : ℕ → List ℕ
word_bytes x = (x / 16777216 % 256) ∷ (x / 65536 % 256) ∷ (x / 256 % 256) ∷ (x % 256) ∷ []

-- a block as a1, a0, and back
unfoldable pub halves : List ℕ → ℕ × ℕ
halves b = (word_at b 0, word_at b 4)

unfoldable pub joined_halves : ℕ × ℕ → List ℕ
joined_halves s = word_bytes s.0 ++ word_bytes s.1

-- a key's eight words
unfoldable pub key_words : List ℕ → List ℕ
key_words key =
    word_at key 0 ∷ word_at key 4 ∷ word_at key 8 ∷ word_at key 12 ∷ word_at key 16 ∷ word_at key 20 ∷ word_at key 24 ∷ word_at key 28 ∷ []

-- K1 to K32: the words three times in order, and once reversed
unfoldable pub round_keys : List ℕ → List ℕ
round_keys ws = ws ++ (ws ++ (ws ++ reverse ws))

-- the key of round i + 1 under a key of 32 bytes, for i below 32
abbrev pub round_key_at : List ℕ → ℕ → Option ℕ
round_key_at key i = cond (nat_lt i 32) (Some (slice_index (round_keys (key_words key)) i)) None

-- E and D under round keys from the eight words: D is E with the round keys reversed
unfoldable pub enciphered : List ℕ → List ℕ → List ℕ
enciphered ws b = joined_halves (composed (round_keys ws) (halves b))

unfoldable pub deciphered : List ℕ → List ℕ → List ℕ
deciphered ws b = joined_halves (composed (reverse (round_keys ws)) (halves b))

abbrev pub cipher_of : List ℕ → Meaning
cipher_of ws = record { size = 8; forward = enciphered ws; inverse = deciphered ws }

-- Magma under a key of 32 bytes
abbrev pub magma : List ℕ → Meaning
magma key = cipher_of (key_words key)
