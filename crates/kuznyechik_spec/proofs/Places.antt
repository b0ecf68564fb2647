-- A map of blocks that takes sums to sums is the sum, over the places, of what it makes of one byte at a place, and that in turn
-- the sum of what it makes of one bit. So a table of the first is tested against the second.
use Rattle.std.proofs.Common.{◌≡◌, ℕ, zero, suc, ◌+◌, ◌*◌, ◌/◌, ◌%◌, ◌^◌, ◌<◌, Bool, true, false, T, eqb, List, [], ◌∷◌, ◌++◌, map, length, get_or, sym, refl, ap, ◌∙◌, subst, ap₂, le_of_suc-le-suc, not-suc-le-zero, add-zero, add-suc, suc-add, one-mul, pow-suc, div-add-mod', zero-add, zero-mul, arith, lit<, eqb→eq, length-append, pow_pos}
use lib.Bits.{bit_xor, xor_self, xor_shifted, xor_block, xor_zero_r, xor_comm}
use lib.Lanes.{zip2}
use Rattle.block.specs.Blocks.{Block, Bytes}
use Rattle.kuznyechik_spec.specs.Kuznyechik.{add_key}
use Rattle.kuznyechik_spec.specs.Tables.{number, zeros, byte_at, entry_sum}
use Rattle.kuznyechik_spec.proofs.Computed.{both, both_left, both_right}
use Rattle.std.proofs.ByRecursion.{All-append}
use Rattle.block.proofs.Bytes.{xor-twice}
use Rattle.kuznyechik_spec.proofs.Field.{xor-twos}

-- ---- one byte at a place

zeros-bytes : (n : ℕ) → Bytes (zeros n)
unfolding zeros
zeros-bytes zero = tt
zeros-bytes (suc n) = (lit< tt, zeros-bytes n)

zeros-length : (n : ℕ) → length (zeros n) ≡ n
unfolding zeros
zeros-length zero = refl
zeros-length (suc n) = ap suc (zeros-length n)

zeros-sum : (n : ℕ) → zip2 bit_xor (zeros n) (zeros n) ≡ zeros n
unfolding zeros
zeros-sum zero = refl
zeros-sum (suc n) = ap (λ l. 0 ∷ l) (zeros-sum n)

byte_at-bytes : (n p a : ℕ) → a < 256 → Bytes (byte_at n p a)
unfolding byte_at
byte_at-bytes zero p a h = tt
byte_at-bytes (suc n) zero a h = (h, zeros-bytes n)
byte_at-bytes (suc n) (suc p) a h = (lit< tt, byte_at-bytes n p a h)

byte_at-length : (n p a : ℕ) → length (byte_at n p a) ≡ n
unfolding byte_at
byte_at-length zero p a = refl
byte_at-length (suc n) zero a = ap suc (zeros-length n)
byte_at-length (suc n) (suc p) a = ap suc (byte_at-length n p a)

byte_at-xor : (n p a b : ℕ) → byte_at n p (bit_xor a b) ≡ zip2 bit_xor (byte_at n p a) (byte_at n p b)
unfolding byte_at
byte_at-xor zero p a b = refl
byte_at-xor (suc n) zero a b = ap (λ l. bit_xor a b ∷ l) (sym (zeros-sum n))
byte_at-xor (suc n) (suc p) a b = ap (λ l. 0 ∷ l) (byte_at-xor n p a b)

pub byte_at-block : (p a : ℕ) → a < 256 → Block 16 (byte_at 16 p a)
byte_at-block p a h = record { long = byte_at-length 16 p a; bytes = byte_at-bytes 16 p a h }

-- p zeros and the bytes of x ∷ xs are x at place p, and p + 1 zeros and the bytes of xs
zeros-zip : (n : ℕ) (xs : List ℕ) → length xs ≡ n → zip2 bit_xor (zeros n) xs ≡ xs
unfolding zeros
zeros-zip zero [] e = refl
zeros-zip zero (x ∷ xs) e = absurd (omega arith)
zeros-zip (suc n) [] e = absurd (omega arith)
zeros-zip (suc n) (x ∷ xs) e = ap (λ l. x ∷ l) (zeros-zip n xs (omega arith))

peel : (p n x : ℕ) (xs : List ℕ) → length xs ≡ n
    → zeros p ++ (x ∷ xs) ≡ zip2 bit_xor (byte_at (p + suc n) p x) (zeros (suc p) ++ xs)
unfolding zeros byte_at
peel zero n x xs e = rw zero-add (sym (ap₂ (λ y l. y ∷ l) (xor_zero_r x) (zeros-zip n xs e)))
peel (suc p) n x xs e = rw suc-add (ap (λ l. 0 ∷ l) (peel p n x xs e))

-- ---- the number that a block spells

number-xor : (xs ys : List ℕ) (m n : ℕ) → Bytes xs → Bytes ys → length xs ≡ length ys
    → number (bit_xor m n) (zip2 bit_xor xs ys) ≡ bit_xor (number m xs) (number n ys)
unfolding number
number-xor [] [] m n h k e = refl
number-xor [] (y ∷ ys) m n h k e = absurd (omega arith)
number-xor (x ∷ xs) [] m n h k e = absurd (omega arith)
number-xor (x ∷ xs) (y ∷ ys) m n h k e =
    ap (λ z. number z (zip2 bit_xor xs ys)) (sym (xor_block 8 m n x y h.0 k.0))
    ∙ number-xor xs ys (m * 256 + x) (n * 256 + y) h.1 k.1 (omega arith)

pub number-add_key : (a b : List ℕ) → Block 16 a → Block 16 b → number 0 (add_key a b) ≡ bit_xor (number 0 a) (number 0 b)
unfolding add_key
number-add_key a b h k = number-xor a b 0 0 h.bytes k.bytes (h.long ∙ sym k.long)

-- ---- by bits

-- what g makes of 1, 2, 4 and so on
abbrev pub basis : ℕ → (ℕ → ℕ) → List ℕ
basis zero g = []
basis (suc n) g = g 1 ∷ basis n (λ z. g (z * 2))

-- the sum of those at which y has a bit
abbrev pub comb : List ℕ → ℕ → ℕ
comb [] y = 0
comb (b ∷ bs) y = bit_xor (y % 2 * b) (comb bs (y / 2))

bit-of : (g : ℕ → ℕ) → g 0 ≡ 0 → (b : ℕ) → b < 2 → b * g 1 ≡ g b
bit-of g z zero h = zero-mul (g 1) ∙ sym z
bit-of g z (suc zero) h = one-mul (g 1)
bit-of g z (suc (suc b)) h = absurd (omega arith)

pub by_bits : (n : ℕ) (g : ℕ → ℕ) → g 0 ≡ 0 → ((a b : ℕ) → a < 2 ^ n → b < 2 ^ n → g (bit_xor a b) ≡ bit_xor (g a) (g b))
    → (y : ℕ) → y < 2 ^ n → comb (basis n g) y ≡ g y
by_bits zero g z lin y h = sym (ap g (let e : y ≡ 0 = omega arith in e) ∙ z)
by_bits (suc n) g z lin y h =
    let low : y % 2 < 2 = omega arith in
    let two : 2 ^ suc n ≡ 2 ^ n * 2 = rw pow-suc in
    let half : y / 2 < 2 ^ n = omega (arith, two) in
    let pos : 0 < 2 ^ n = pow_pos n in
    let halves : bit_xor (y % 2) (y / 2 * 2) ≡ y = xor_comm (y % 2) (y / 2 * 2) ∙ xor_shifted (y / 2) 1 (y % 2) low ∙ div-add-mod' y 2 in
    ap₂ bit_xor (bit-of g z (y % 2) low)
    (by_bits n (λ x. g (x * 2)) z
    (λ a b ha hb. ap g (xor-twos a b) ∙ lin (a * 2) (b * 2) (omega (arith, two)) (omega (arith, two))) (y / 2) half)
    ∙ sym (lin (y % 2) (y / 2 * 2) (omega (arith, two)) (omega (arith, two)))
    ∙ ap g halves

-- ---- the tests of a table

-- row against basis: entry i is the sum, by the bits of the i-th y
abbrev pub row_ok : List ℕ → List ℕ → List ℕ → Bool
row_ok bs [] xs = true
row_ok bs (y ∷ ys) [] = false
row_ok bs (y ∷ ys) (x ∷ xs) = both (eqb x (comb bs y)) (row_ok bs ys xs)

abbrev pub rows_ok : (List ℕ → List ℕ) → List ℕ → ℕ → List (List ℕ) → Bool
rows_ok f ys p [] = true
rows_ok f ys p (r ∷ rs) = both (row_ok (basis 8 (λ y. number 0 (f (byte_at 16 p y)))) ys r) (rows_ok f ys (suc p) rs)

row_at : (bs ys xs : List ℕ) → T (row_ok bs ys xs) → (v : ℕ) → v < length ys → get_or xs v 0 ≡ comb bs (get_or ys v 0)
row_at bs [] xs t v h = absurd (not-suc-le-zero h)
row_at bs (y ∷ ys) [] t v h = absurd t
row_at bs (y ∷ ys) (x ∷ xs) t zero h = eqb→eq x (comb bs y) (both_left (eqb x (comb bs y)) (row_ok bs ys xs) t)
row_at bs (y ∷ ys) (x ∷ xs) t (suc v) h =
    row_at bs ys xs (both_right (eqb x (comb bs y)) (row_ok bs ys xs) t) v (le_of_suc-le-suc h)

rows_at : (f : List ℕ → List ℕ) (ys : List ℕ) (p : ℕ) (rs : List (List ℕ)) → T (rows_ok f ys p rs)
    → (k v : ℕ) → k < length rs → v < length ys
    → get_or (get_or rs k []) v 0 ≡ comb (basis 8 (λ y. number 0 (f (byte_at 16 (p + k) y)))) (get_or ys v 0)
rows_at f ys p [] t k v h j = absurd (not-suc-le-zero h)
rows_at f ys p (r ∷ rs) t zero v h j =
    rw add-zero
    (row_at (basis 8 (λ y. number 0 (f (byte_at 16 p y)))) ys r
    (both_left (row_ok (basis 8 (λ y. number 0 (f (byte_at 16 p y)))) ys r) (rows_ok f ys (suc p) rs) t) v j)
rows_at f ys p (r ∷ rs) t (suc k) v h j =
    rw (add-suc, ← suc-add)
    (rows_at f ys (suc p) rs
    (both_right (row_ok (basis 8 (λ y. number 0 (f (byte_at 16 p y)))) ys r) (rows_ok f ys (suc p) rs) t) k v (le_of_suc-le-suc h) j)

pub entry_sum-map : (e : ℕ → ℕ → ℕ) (g : ℕ → ℕ) (p : ℕ) (xs : List ℕ) → entry_sum (λ q v. e q (g v)) p xs ≡ entry_sum e p (map g xs)
unfolding entry_sum
entry_sum-map e g p [] = refl
entry_sum-map e g p (x ∷ xs) = ap (bit_xor (e p (g x))) (entry_sum-map e g (suc p) xs)

-- ---- a map of blocks that takes sums to sums

module _ (f : List ℕ → List ℕ) (keep : (a : List ℕ) → Block 16 a → Block 16 (f a))
    (lin : (a b : List ℕ) → Block 16 a → Block 16 b → f (add_key a b) ≡ add_key (f a) (f b)) where
  at : ℕ → ℕ → ℕ
  at p y = number 0 (f (byte_at 16 p y))

  at-xor : (p a b : ℕ) → a < 256 → b < 256 → at p (bit_xor a b) ≡ bit_xor (at p a) (at p b)
  unfolding at add_key
  at-xor p a b ha hb =
      let x : Block 16 (byte_at 16 p a) = byte_at-block p a ha in
      let y : Block 16 (byte_at 16 p b) = byte_at-block p b hb in
      ap (λ z. number 0 (f z)) (byte_at-xor 16 p a b) ∙ ap (number 0) (lin (byte_at 16 p a) (byte_at 16 p b) x y)
      ∙ number-add_key (f (byte_at 16 p a)) (f (byte_at 16 p b)) (keep (byte_at 16 p a) x) (keep (byte_at 16 p b) y)

  at_zero : (p : ℕ) → at p 0 ≡ 0
  at_zero p = sym (xor-twice (at p 0) (at p 0)) ∙ ap (bit_xor (at p 0)) (sym (at-xor p 0 0 (lit< tt) (lit< tt))) ∙ xor_self (at p 0)

  -- an entry of a tested table
  pub table_at : (ys : List ℕ) (rs : List (List ℕ)) → T (rows_ok f ys 0 rs) → (p v : ℕ) → p < length rs → v < length ys
      → get_or ys v 0 < 256 → get_or (get_or rs p []) v 0 ≡ number 0 (f (byte_at 16 p (get_or ys v 0)))
  unfolding at
  table_at ys rs t p v h j k =
      rows_at f ys 0 rs t p v h j ∙ ap (λ q. comb (basis 8 (λ y. number 0 (f (byte_at 16 q y)))) (get_or ys v 0)) (zero-add p)
      ∙ by_bits 8 (at p) (at_zero p) (λ a b. at-xor p a b) (get_or ys v 0) k

  places : (xs : List ℕ) (p : ℕ) → p + length xs ≡ 16 → Bytes xs
      → entry_sum (λ q y. number 0 (f (byte_at 16 q y))) p xs ≡ number 0 (f (zeros p ++ xs))
  unfolding at add_key zeros byte_at entry_sum
  places [] p e h =
      let is : p ≡ 16 = omega arith in
      subst (λ q. 0 ≡ number 0 (f (zeros q ++ []))) (sym is) (sym (at_zero 16))
  places (x ∷ xs) p e h =
      let sixteen : p + suc (length xs) ≡ 16 = e in
      let a : Block 16 (byte_at 16 p x) = byte_at-block p x h.0 in
      let b : Block 16 (zeros (suc p) ++ xs) = record {
        long = length-append (zeros (suc p)) xs ∙ ap (λ n. n + length xs) (zeros-length (suc p)) ∙ omega arith;
        bytes = All-append (λ x. x < 256) (zeros (suc p)) xs (zeros-bytes (suc p)) h.1;
      } in
      ap (bit_xor (number 0 (f (byte_at 16 p x)))) (places xs (suc p) (omega arith) h.1)
      ∙ sym (number-add_key (f (byte_at 16 p x)) (f (zeros (suc p) ++ xs)) (keep (byte_at 16 p x) a) (keep (zeros (suc p) ++ xs) b))
      ∙ ap (number 0) (sym (lin (byte_at 16 p x) (zeros (suc p) ++ xs) a b))
      ∙ ap (λ z. number 0 (f z))
      (subst (λ n. zip2 bit_xor (byte_at n p x) (zeros (suc p) ++ xs) ≡ zeros p ++ (x ∷ xs)) sixteen (sym (peel p (length xs) x xs refl)))

  pub by-places : (xs : List ℕ) → Block 16 xs → entry_sum (λ q y. number 0 (f (byte_at 16 q y))) 0 xs ≡ number 0 (f xs)
  unfolding zeros
  by-places xs h = places xs 0 (zero-add (length xs) ∙ h.long) h.bytes
