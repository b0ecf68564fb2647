-- The field: the product by a constant takes a sum to a sum.
use Rattle.std.proofs.Common.{◌≡◌, ℕ, zero, suc, ◌*◌, ◌/◌, ◌%◌, ◌<◌, sym, refl, ap, ◌∙◌, ap₂, add-zero, one-mul, zero-mul, arith, lit<}
use lib.Bits.{bit_xor, xor_assoc, xor_comm, xor_self, xor_zero_r, xor_lt, xor_mod, xor_shr, xor_block}
use Rattle.kuznyechik_spec.specs.Field.{times_x, multiply_terms, multiply}

-- two sums of two
pub xor4 : (p q r s : ℕ) → bit_xor (bit_xor p q) (bit_xor r s) ≡ bit_xor (bit_xor p r) (bit_xor q s)
xor4 p q r s =
    xor_assoc p q (bit_xor r s) ∙ ap (bit_xor p) (sym (xor_assoc q r s) ∙ ap (λ x. bit_xor x s) (xor_comm q r) ∙ xor_assoc r q s)
    ∙ sym (xor_assoc p r (bit_xor q s))

-- a bit times a number takes a sum of bits, or of numbers, to a sum
bit-xor : (x y m : ℕ) → x < 2 → y < 2 → bit_xor x y * m ≡ bit_xor (x * m) (y * m)
bit-xor zero y m hx hy = sym (ap (λ n. bit_xor n (y * m)) (zero-mul m))
bit-xor (suc zero) zero m hx hy = sym (ap (bit_xor (1 * m)) (zero-mul m) ∙ xor_zero_r (1 * m))
bit-xor (suc zero) (suc zero) m hx hy = zero-mul m ∙ sym (xor_self (1 * m))
bit-xor (suc zero) (suc (suc y)) m hx hy = absurd (omega arith)
bit-xor (suc (suc x)) y m hx hy = absurd (omega arith)

xor-bit : (x a b : ℕ) → x < 2 → x * bit_xor a b ≡ bit_xor (x * a) (x * b)
xor-bit zero a b h = zero-mul (bit_xor a b) ∙ sym (ap₂ bit_xor (zero-mul a) (zero-mul b))
xor-bit (suc zero) a b h = one-mul (bit_xor a b) ∙ sym (ap₂ bit_xor (one-mul a) (one-mul b))
xor-bit (suc (suc x)) a b h = absurd (omega arith)

-- a sum, doubled
pub xor-twos : (a b : ℕ) → bit_xor a b * 2 ≡ bit_xor (a * 2) (b * 2)
xor-twos a b =
    sym (ap₂ bit_xor (sym (add-zero (a * 2))) (sym (add-zero (b * 2))) ∙ xor_block 1 a b 0 0 (lit< tt) (lit< tt) ∙ add-zero (bit_xor a b * 2))

pub times_x-xor : (a b : ℕ) → a < 256 → b < 256 → times_x (bit_xor a b) ≡ bit_xor (times_x a) (times_x b)
unfolding times_x
times_x-xor a b ha hb =
    ap₂ (λ x y. bit_xor (x * 2) (y * 195)) (xor_mod a b 7) (xor_shr a b 7)
    ∙ ap₂ bit_xor (xor-twos (a % 128) (b % 128)) (bit-xor (a / 128) (b / 128) 195 (omega arith) (omega arith))
    ∙ xor4 (a % 128 * 2) (b % 128 * 2) (a / 128 * 195) (b / 128 * 195)

pub times_x-lt : (a : ℕ) → a < 256 → times_x a < 256
unfolding times_x
times_x-lt a h = xor_lt 8 (a % 128 * 2) (a / 128 * 195) (omega arith) (omega arith)

bit-lt : (x a : ℕ) → x < 2 → a < 256 → x * a < 256
bit-lt zero a h k = rw zero-mul (lit< tt)
bit-lt (suc zero) a h k = rw one-mul k
bit-lt (suc (suc x)) a h k = absurd (omega arith)

pub multiply_terms-lt : (n c a : ℕ) → a < 256 → multiply_terms n c a < 256
unfolding multiply_terms
multiply_terms-lt zero c a h = lit< tt
multiply_terms-lt (suc n) c a h =
    xor_lt 8 (c % 2 * a) (multiply_terms n (c / 2) (times_x a)) (bit-lt (c % 2) a (omega arith) h) (multiply_terms-lt n (c / 2) (times_x a) (times_x-lt a h))

pub multiply_terms-xor : (n c a b : ℕ) → a < 256 → b < 256 → multiply_terms n c (bit_xor a b) ≡ bit_xor (multiply_terms n c a) (multiply_terms n c b)
unfolding multiply_terms
multiply_terms-xor zero c a b ha hb = refl
multiply_terms-xor (suc n) c a b ha hb =
    ap₂ bit_xor (xor-bit (c % 2) a b (omega arith))
    (ap (multiply_terms n (c / 2)) (times_x-xor a b ha hb) ∙ multiply_terms-xor n (c / 2) (times_x a) (times_x b) (times_x-lt a ha) (times_x-lt b hb))
    ∙ xor4 (c % 2 * a) (c % 2 * b) (multiply_terms n (c / 2) (times_x a)) (multiply_terms n (c / 2) (times_x b))

pub multiply_terms-none : (n a : ℕ) → multiply_terms n 0 a ≡ 0
unfolding multiply_terms
multiply_terms-none zero a = refl
multiply_terms-none (suc n) a = ap₂ bit_xor (zero-mul a) (multiply_terms-none n (times_x a))

pub multiply-lt : (c a : ℕ) → a < 256 → multiply c a < 256
unfolding multiply
multiply-lt c a h = multiply_terms-lt 8 c a h

pub multiply-xor : (c a b : ℕ) → a < 256 → b < 256 → multiply c (bit_xor a b) ≡ bit_xor (multiply c a) (multiply c b)
unfolding multiply
multiply-xor c a b ha hb = multiply_terms-xor 8 c a b ha hb

pub multiply-one : (a : ℕ) → multiply 1 a ≡ a
unfolding multiply multiply_terms
multiply-one a = ap₂ bit_xor (one-mul a) (multiply_terms-none 7 (times_x a)) ∙ xor_zero_r a
