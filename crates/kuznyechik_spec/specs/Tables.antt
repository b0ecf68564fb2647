-- What the two tables hold: for each of the sixteen places of a byte and each of its 256 values, a block as a number.
use Rattle.std.specs.Prelude.{◌≡◌, ℕ, zero, suc, ◌+◌, ◌*◌, ◌<◌, Bool, true, false, ◌&&◌, List, [], ◌∷◌, ◌==◌, bit_xor, slice_index, slice_index_or}
use Rattle.kuznyechik_spec.specs.Kuznyechik.{block_of, transform_l, inverse_l, substitution}

-- the number that bytes spell, the highest first, after n
unfoldable pub number : ℕ → List ℕ → ℕ
number n [] = n
number n (a ∷ xs) = number (n * 256 + a) xs

unfoldable pub zeros : ℕ → List ℕ
zeros zero = []
zeros (suc n) = 0 ∷ zeros n

-- n bytes, a at place p and 0 at the others
unfoldable pub byte_at : ℕ → ℕ → ℕ → List ℕ
byte_at zero p a = []
byte_at (suc n) zero a = a ∷ zeros n
byte_at (suc n) (suc p) a = 0 ∷ byte_at n p a

-- L of the block with the substituted value at the place
unfoldable pub round_entry : ℕ → ℕ → ℕ
round_entry p v = number 0 (transform_l (byte_at 16 p (substitution v)))

-- the inverse of L of the block with the value at the place
unfoldable pub inverse_entry : ℕ → ℕ → ℕ
inverse_entry p v = number 0 (inverse_l (byte_at 16 p v))

-- the sum of the entries e at the places from p on
unfoldable pub entry_sum : (ℕ → ℕ → ℕ) → ℕ → List ℕ → ℕ
entry_sum e p [] = 0
entry_sum e p (x ∷ xs) = bit_xor (e p x) (entry_sum e (suc p) xs)

-- the sum of what the rows of t have for the bytes of a
unfoldable pub lookup_sum : List (List ℕ) → List ℕ → ℕ
lookup_sum t a = entry_sum (λ p v. slice_index (slice_index_or t p []) v) 0 a

-- a table that holds the entry e of each place and value
pub record Holds (e : ℕ → ℕ → ℕ) (t : List (List ℕ)) : Type 0 where
  pub at : (p v : ℕ) → p < 16 → v < 256 → slice_index (slice_index_or t p []) v ≡ e p v

-- ---- round keys for deciphering

-- the inverse of L of a block, as a number
unfoldable pub inverse_number : List ℕ → ℕ
inverse_number k = number 0 (inverse_l k)

-- the second row holds the inverse of L of each number of the first, as a test
unfoldable pub are_inverses : List ℕ → List ℕ → Bool
are_inverses [] [] = true
are_inverses [] (m ∷ ms) = false
are_inverses (k ∷ ks) [] = false
are_inverses (k ∷ ks) (m ∷ ms) = m == inverse_number (block_of k) && are_inverses ks ms
