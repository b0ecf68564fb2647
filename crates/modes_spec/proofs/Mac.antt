-- Doubling a block in place, and the last block of a text.
use Rattle.std.proofs.Common.{◌≡◌, ℕ, zero, suc, ◌+◌, ◌*◌, ◌/◌, ◌%◌, ◌<◌, Bool, true, false, cond, eqb, leb, List, [], ◌∷◌, ◌++◌, length, get_or, take, drop, set, sym, refl, ap, ◌∙◌, ap₂, add-one, arith}
use lib.Bits.{bit_xor, xor_lt}
use lib.ListN.{length-replicate}
use Rattle.block.specs.Blocks.{Block, Meaning, Lawful, Same, Bytes}
use Rattle.modes_spec.specs.Texts.{zeros}
use Rattle.modes_spec.proofs.Cbc.{zeros-bytes}
use Rattle.modes_spec.specs.Mac.{shifted, joined_last, high_bit, doubled, constant_b, subkey1, subkey2}

-- ---- a loop that shifts byte after byte

one_byte : (x : ℕ) → x % 128 * 2 ≡ x * 2 % 256
one_byte x = omega arith

pub shift-step : (xs ys : List ℕ) (i : ℕ) → i + 1 < length xs → ys ≡ take i (shifted xs) ++ drop i xs
    → set ys i (get_or ys i 0 % 128 * 2 + get_or ys (i + 1) 0 / 128) ≡ take (i + 1) (shifted xs) ++ drop (i + 1) xs
shift-step xs ys i h e =
    ap (λ (l : List ℕ). set l i (get_or l i 0 % 128 * 2 + get_or l (i + 1) 0 / 128)) e
    ∙ ap (λ (k : ℕ). set (take i (shifted xs) ++ drop i xs) i (get_or (take i (shifted xs) ++ drop i xs) i 0 % 128 * 2 + get_or (take i (shifted xs) ++ drop i xs) k 0 / 128)) (add-one i)
    ∙ go xs i (omega arith)
    ∙ ap (λ (k : ℕ). take k (shifted xs) ++ drop k xs) (sym (add-one i))
  where
    go : (xs : List ℕ) (i : ℕ) → suc i < length xs
        → set (take i (shifted xs) ++ drop i xs) i (get_or (take i (shifted xs) ++ drop i xs) i 0 % 128 * 2 + get_or (take i (shifted xs) ++ drop i xs) (suc i) 0 / 128)
        ≡ take (suc i) (shifted xs) ++ drop (suc i) xs
    go [] i h = absurd (omega arith)
    go (x ∷ []) i h = absurd (omega arith)
    go (x ∷ y ∷ zs) zero h = ap (λ (k : ℕ). (k + y / 128) ∷ y ∷ zs) (one_byte x)
    go (x ∷ y ∷ zs) (suc i) h = ap (λ (l : List ℕ). (x * 2 % 256 + y / 128) ∷ l) (go (y ∷ zs) i (omega arith))

pub shift-last : (xs ys : List ℕ) (i : ℕ) → i + 1 ≡ length xs → ys ≡ take i (shifted xs) ++ drop i xs → set ys i (get_or ys i 0 % 128 * 2) ≡ shifted xs
shift-last xs ys i h e = ap (λ (l : List ℕ). set l i (get_or l i 0 % 128 * 2)) e ∙ go xs i (omega arith)
  where
    go : (xs : List ℕ) (i : ℕ) → suc i ≡ length xs → set (take i (shifted xs) ++ drop i xs) i (get_or (take i (shifted xs) ++ drop i xs) i 0 % 128 * 2) ≡ shifted xs
    go [] i h = absurd (omega arith)
    go (x ∷ []) zero h = ap (λ (k : ℕ). k ∷ []) (one_byte x)
    go (x ∷ []) (suc i) h = absurd (omega arith)
    go (x ∷ y ∷ zs) zero h = absurd (omega arith)
    go (x ∷ y ∷ zs) (suc i) h = ap (λ (l : List ℕ). (x * 2 % 256 + y / 128) ∷ l) (go (y ∷ zs) i (omega arith))

pub join_last : (xs : List ℕ) (i b : ℕ) → i + 1 ≡ length xs → set xs i (bit_xor (get_or xs i 0) b) ≡ joined_last b xs
join_last [] i b h = absurd (omega arith)
join_last (x ∷ []) zero b h = refl
join_last (x ∷ []) (suc i) b h = absurd (omega arith)
join_last (x ∷ y ∷ zs) zero b h = absurd (omega arith)
join_last (x ∷ y ∷ zs) (suc i) b h = ap (λ (l : List ℕ). x ∷ l) (join_last (y ∷ zs) i b (omega arith))

pub length-shifted : (xs : List ℕ) → length (shifted xs) ≡ length xs
length-shifted [] = refl
length-shifted (x ∷ []) = refl
length-shifted (x ∷ y ∷ zs) = ap suc (length-shifted (y ∷ zs))

high-first : (xs : List ℕ) → 0 < length xs → high_bit xs ≡ leb 128 (get_or xs 0 0)
high-first [] h = absurd (omega arith)
high-first (x ∷ xs) h = refl

pub doubled-high : (n : ℕ) (xs : List ℕ) → 0 < length xs → leb 128 (get_or xs 0 0) ≡ true → joined_last (constant_b n) (shifted xs) ≡ doubled n xs
unfolding doubled
doubled-high n xs h e = sym (ap (λ (b : Bool). cond b (joined_last (constant_b n) (shifted xs)) (shifted xs)) (high-first xs h ∙ e))

pub doubled-low : (n : ℕ) (xs : List ℕ) → 0 < length xs → leb 128 (get_or xs 0 0) ≡ false → shifted xs ≡ doubled n xs
unfolding doubled
doubled-low n xs h e = sym (ap (λ (b : Bool). cond b (joined_last (constant_b n) (shifted xs)) (shifted xs)) (high-first xs h ∙ e))

pub length-joined_last : (b : ℕ) (xs : List ℕ) → length (joined_last b xs) ≡ length xs
length-joined_last b [] = refl
length-joined_last b (x ∷ []) = refl
length-joined_last b (x ∷ y ∷ zs) = ap suc (length-joined_last b (y ∷ zs))

pub length-doubled : (n : ℕ) (xs : List ℕ) → length (doubled n xs) ≡ length xs
unfolding doubled
length-doubled n xs =
    elim (high_bit xs) as (λ (b : Bool). length (cond b (joined_last (constant_b n) (shifted xs)) (shifted xs)) ≡ length xs) [
      | true ↦ length-joined_last (constant_b n) (shifted xs) ∙ length-shifted xs
      | false ↦ length-shifted xs
    ]

-- ---- subkeys are blocks

bytes_shifted : (xs : List ℕ) → Bytes xs → Bytes (shifted xs)
bytes_shifted [] h = tt
bytes_shifted (x ∷ []) h = (omega arith, tt)
bytes_shifted (x ∷ y ∷ zs) h = let l : y < 256 = h.1.0 in (omega arith, bytes_shifted (y ∷ zs) h.1)

bytes-joined_last : (b : ℕ) (xs : List ℕ) → b < 256 → Bytes xs → Bytes (joined_last b xs)
bytes-joined_last b [] k h = tt
bytes-joined_last b (x ∷ []) k h = (xor_lt 8 x b h.0 k, tt)
bytes-joined_last b (x ∷ y ∷ zs) k h = (h.0, bytes-joined_last b (y ∷ zs) k h.1)

constant-byte : (n : ℕ) → constant_b n < 256
constant-byte n = elim (eqb n 8) as (λ (b : Bool). cond b 27 135 < 256) [ true ↦ omega arith | false ↦ omega arith ]

pub doubled-block : (n : ℕ) (xs : List ℕ) → Block n xs → Block n (doubled n xs)
unfolding doubled
doubled-block n xs h = record {
  long = length-doubled n xs ∙ h.long;
  bytes =
      elim (high_bit xs) as (λ (b : Bool). Bytes (cond b (joined_last (constant_b n) (shifted xs)) (shifted xs))) [
        | true ↦ bytes-joined_last (constant_b n) (shifted xs) (constant-byte n) (bytes_shifted xs h.bytes)
        | false ↦ bytes_shifted xs h.bytes
      ];
}

pub zeros-block : (n : ℕ) → Block n (zeros n)
zeros-block n = record { long = length-replicate n 0; bytes = zeros-bytes n }

pub subkey1-block : (m : Meaning) → Lawful m → Block m.size (subkey1 m)
subkey1-block m l = doubled-block m.size _ (l.forward-block _ (zeros-block m.size))

pub subkey2-block : (m : Meaning) → Lawful m → Block m.size (subkey2 m)
subkey2-block m l = doubled-block m.size _ (subkey1-block m l)

-- ciphers that mean the same have the same subkeys
pub subkeys-same : (m o : Meaning) → Same m o → (subkey1 o ≡ subkey1 m) × (subkey2 o ≡ subkey2 m)
subkeys-same m o s =
    let r : o.forward (zeros o.size) ≡ m.forward (zeros m.size) =
    ap (λ (k : ℕ). o.forward (zeros k)) (sym s.sizes) ∙ sym (s.forwards _ (zeros-block m.size)) in
    let one : subkey1 o ≡ subkey1 m = ap₂ doubled (sym s.sizes) r in
    (one, ap₂ doubled (sym s.sizes) one)
