-- The xor of the four entries that a word's bytes name is t of the word, rotated.
use Rattle.std.proofs.Common.{◌≡◌, ℕ, ◌+◌, ◌*◌, ◌/◌, ◌%◌, ◌^◌, ◌<◌, List, [], ◌∷◌, get_or, sym, ap, ◌∙◌, ap₂, zero-add, arith}
use native.Mathlib.Nat.{div-div-eq-div-mul}
use lib.Bits.{bit_xor, xor_block, xor_shifted, xor_zero_l, xor_zero_r, xor_comm}
use Rattle.std.proofs.lemmas.Nat.{field_of, shr_high, mod_low}
use Rattle.magma.specs.Magma.{rows, substituted, t, rotated, g}
use Rattle.magma.specs.Tables.{byte_at, wide_entry, Holds}
use Rattle.magma.specs.Rows.{row_at-small}

-- a byte by two rows
abbrev by_rows : List ℕ → List ℕ → ℕ → ℕ
by_rows r s v = 16 * get_or s (v / 16) 0 + get_or r (v % 16) 0

-- two rows at a time
pair : (r s : List ℕ) (rs : List (List ℕ)) (a : ℕ)
    → substituted (r ∷ s ∷ rs) a ≡ 256 * substituted rs (a / 256) + by_rows r s (a % 256)
pair r s rs a =
    let low : a % 16 ≡ a % 256 % 16 = omega arith in
    let high : a / 16 % 16 ≡ a % 256 / 16 = sym (field_of a 4 4) in
    let rest : a / 16 / 16 ≡ a / 256 = div-div-eq-div-mul a 16 16 in
    omega
    (arith, ap (λ (j : ℕ). get_or r j 0) low, ap (λ (j : ℕ). get_or s j 0) high, ap (λ (j : ℕ). substituted rs j) rest)

pairs : (a b c d e f i j : List ℕ) (x : ℕ)
    → substituted (a ∷ b ∷ c ∷ d ∷ e ∷ f ∷ i ∷ j ∷ []) x
    ≡ 256 * (256 * (256 * by_rows i j (x / 16777216 % 256) + by_rows e f (x / 65536 % 256)) + by_rows c d (x / 256 % 256))
    + by_rows a b (x % 256)
pairs a b c d e f i j x =
    pair a b (c ∷ d ∷ e ∷ f ∷ i ∷ j ∷ []) x
    ∙ ap (λ (z : ℕ). 256 * z + by_rows a b (x % 256))
    (pair c d (e ∷ f ∷ i ∷ j ∷ []) (x / 256)
    ∙ ap (λ (z : ℕ). 256 * z + by_rows c d (x / 256 % 256))
    (ap (λ (z : ℕ). substituted (e ∷ f ∷ i ∷ j ∷ []) z) (div-div-eq-div-mul x 256 256) ∙ pair e f (i ∷ j ∷ []) (x / 65536)
    ∙ ap (λ (z : ℕ). 256 * z + by_rows e f (x / 65536 % 256))
    (ap (λ (z : ℕ). substituted (i ∷ j ∷ []) z) (div-div-eq-div-mul x 65536 256) ∙ pair i j [] (x / 16777216)
    ∙ zero-add (by_rows i j (x / 16777216 % 256)))))

-- t, byte by byte
t-bytes : (x : ℕ)
    → t x ≡ 256 * (256 * (256 * byte_at 3 (x / 16777216 % 256) + byte_at 2 (x / 65536 % 256)) + byte_at 1 (x / 256 % 256)) + byte_at 0 (x % 256)
unfolding t rows
t-bytes x =
    pairs (get_or rows 0 []) (get_or rows 1 []) (get_or rows 2 []) (get_or rows 3 []) (get_or rows 4 []) (get_or rows 5 []) (get_or rows 6 []) (get_or rows 7 []) x

byte_at-below : (p v : ℕ) → byte_at p v < 256
byte_at-below p v = omega (arith, row_at-small (2 * p + 1) (v / 16), row_at-small (2 * p) (v % 16))

-- no two of the four have a bit in common
apart : (a b q r d : ℕ) → a < 256 → b < 256 → q < 8 → r < 32 → d < 256
    → bit_xor (bit_xor (bit_xor (a * 2048) (b * 524288)) (r * 134217728 + q)) (d * 8)
    ≡ (r * 65536 + (b * 256 + a)) * 2048 + (d * 8 + q)
apart a b q r d ha hb hq hr hd =
    let one : bit_xor (a * 2048) (b * 524288) ≡ (b * 256 + a) * 2048 =
    xor_comm (a * 2048) (b * 524288) ∙ xor_shifted b 19 (a * 2048) (omega arith) ∙ omega arith in
    let two : bit_xor ((b * 256 + a) * 2048) (r * 134217728 + q) ≡ (r * 65536 + (b * 256 + a)) * 2048 + q =
    ap (λ (z : ℕ). bit_xor z (r * 134217728 + q)) (sym (zero-add ((b * 256 + a) * 2048)))
    ∙ xor_block 27 0 r ((b * 256 + a) * 2048) q (omega arith) (omega arith)
    ∙ ap₂ (λ (y z : ℕ). y * 134217728 + z) (xor_zero_l r) (xor_shifted (b * 256 + a) 11 q (omega arith)) ∙ omega arith in
    let three : bit_xor ((r * 65536 + (b * 256 + a)) * 2048 + q) (d * 8) ≡ (r * 65536 + (b * 256 + a)) * 2048 + (d * 8 + q) =
    ap (λ (z : ℕ). bit_xor ((r * 65536 + (b * 256 + a)) * 2048 + q) z) (sym (zero-add (d * 8)))
    ∙ xor_block 11 (r * 65536 + (b * 256 + a)) 0 q (d * 8) (omega arith) (omega arith)
    ∙ ap₂ (λ (y z : ℕ). y * 2048 + z) (xor_zero_r (r * 65536 + (b * 256 + a)))
    (xor_comm q (d * 8) ∙ xor_shifted d 3 q (omega arith)) in
    ap (λ (z : ℕ). bit_xor (bit_xor z (r * 134217728 + q)) (d * 8)) one ∙ ap (λ (z : ℕ). bit_xor z (d * 8)) two ∙ three

-- the upper 11 bits go below the lower 21
parted : (x hi lo : ℕ) → x ≡ hi * 2 ^ 21 + lo → lo < 2 ^ 21 → rotated x ≡ lo * 2048 + hi
parted x hi lo e l =
    let high : x / 2 ^ 21 ≡ hi = ap (λ (y : ℕ). y / 2 ^ 21) e ∙ shr_high hi 21 lo l in
    let wide : x * 2 ^ 11 ≡ hi * 2 ^ 32 + lo * 2048 = omega arith in
    let low : (x * 2 ^ 11) % 2 ^ 32 ≡ lo * 2048 = ap (λ (y : ℕ). y % 2 ^ 32) wide ∙ mod_low hi 32 (lo * 2048) (omega arith) in
    ap₂ (λ (y z : ℕ). y + z) low high

-- the rotated word from its rotated bytes
turned : (a b c d : ℕ) → a < 256 → b < 256 → c < 256 → d < 256
    → bit_xor (bit_xor (bit_xor (rotated (a * 1)) (rotated (b * 256))) (rotated (c * 65536))) (rotated (d * 16777216))
    ≡ rotated (256 * (256 * (256 * d + c) + b) + a)
turned a b c d ha hb hc hd =
    let q : ℕ = c / 32 in
    let r : ℕ = c % 32 in
    let split : c ≡ q * 32 + r = omega arith in
    let lr : r < 32 = omega arith in
    let lq : q < 8 = omega arith in
    let e0 : rotated (a * 1) ≡ a * 2048 = parted (a * 1) 0 a (omega arith) (omega arith) ∙ omega arith in
    let e1 : rotated (b * 256) ≡ b * 524288 = parted (b * 256) 0 (b * 256) (omega arith) (omega arith) ∙ omega arith in
    let e2 : rotated (c * 65536) ≡ r * 134217728 + q = parted (c * 65536) q (r * 65536) (omega arith) (omega arith) ∙ omega arith in
    let e3 : rotated (d * 16777216) ≡ d * 8 = parted (d * 16777216) (d * 8) 0 (omega arith) (omega arith) ∙ omega arith in
    let all : rotated (256 * (256 * (256 * d + c) + b) + a) ≡ (r * 65536 + (b * 256 + a)) * 2048 + (d * 8 + q) =
    parted (256 * (256 * (256 * d + c) + b) + a) (d * 8 + q) (r * 65536 + (b * 256 + a)) (omega arith) (omega arith) in
    ap₂ bit_xor (ap₂ bit_xor (ap₂ bit_xor e0 e1) e2) e3 ∙ apart a b q r d ha hb lq lr hd ∙ sym all

entries : (x : ℕ)
    → bit_xor (bit_xor (bit_xor (wide_entry 0 (x % 256)) (wide_entry 1 (x / 256 % 256))) (wide_entry 2 (x / 65536 % 256))) (wide_entry 3 (x / 16777216 % 256))
    ≡ rotated (t x)
unfolding wide_entry
entries x =
    turned (byte_at 0 (x % 256)) (byte_at 1 (x / 256 % 256)) (byte_at 2 (x / 65536 % 256)) (byte_at 3 (x / 16777216 % 256))
    (byte_at-below 0 (x % 256)) (byte_at-below 1 (x / 256 % 256)) (byte_at-below 2 (x / 65536 % 256)) (byte_at-below 3 (x / 16777216 % 256))
    ∙ ap rotated (sym (t-bytes x))

looked : (table : List (List ℕ)) → Holds table → (p y v : ℕ) → p < 4 → v ≡ y % 256 → get_or (get_or table p []) v 0 ≡ wide_entry p (y % 256)
looked table h p y v l e = ap (λ u. get_or (get_or table p []) u 0) e ∙ h.at p (y % 256) l (omega arith)

-- g by four lookups, one for each byte of the sum
pub g-by-entries : (table : List (List ℕ)) → Holds table → (k a x b c d e : ℕ) → x ≡ (a + k) % 2 ^ 32
    → b ≡ x % 256 → c ≡ x / 256 % 256 → d ≡ x / 65536 % 256 → e ≡ x / 16777216 % 256
    → bit_xor (bit_xor (bit_xor (get_or (get_or table 0 []) b 0) (get_or (get_or table 1 []) c 0)) (get_or (get_or table 2 []) d 0)) (get_or (get_or table 3 []) e 0)
    ≡ g k a
unfolding g
g-by-entries table h k a x b c d e is eb ec ed ee =
    ap₂ bit_xor
    (ap₂ bit_xor (ap₂ bit_xor (looked table h 0 x b (omega arith) eb) (looked table h 1 (x / 256) c (omega arith) ec)) (looked table h 2 (x / 65536) d (omega arith) ed))
    (looked table h 3 (x / 16777216) e (omega arith) ee)
    ∙ entries x ∙ ap (λ (y : ℕ). rotated (t y)) is
