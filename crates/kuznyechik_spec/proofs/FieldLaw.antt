-- The product in the field is the remainder of the product of polynomials, by the laws of sums and of multiples.
use Rattle.std.proofs.Common.{◌≡◌, ℕ, zero, suc, ◌+◌, ◌*◌, ◌/◌, ◌%◌, ◌^◌, ◌<◌, ◌≤◌, ◌⊎◌, sym, refl, ap, ◌∙◌, subst, ap₂, inl, inr, lt_of_lt_of_le, add-zero, mul_assoc, mul_comm, one-mul, pow-suc, zero-mul, mul-one, mul-div_cancel, one-add, arith, lit<, lit≤, pow_pos, pow_mono, shr-shr}
use native.Mathlib.Nat.{div-eq_of_lt, mul-mod_left}
use native.Mathlib.Decide.{le_ind}
use lib.Arith.{bin_ind}
use lib.Bits.{bit_xor, xor_assoc, xor_comm, xor_self, xor_zero_r, xor_lt, xor_mod, xor_shr, xor_block, xor_shifted}
use Rattle.kuznyechik_spec.specs.Field.{times_x, multiply_terms, multiply, coefficient, product_terms, product, modulus, Multiple, Remainder, MultiplyIsProduct}

-- ---- sums

xor4 : (p q r s : ℕ) → bit_xor (bit_xor p q) (bit_xor r s) ≡ bit_xor (bit_xor p r) (bit_xor q s)
xor4 p q r s =
    xor_assoc p q (bit_xor r s) ∙ ap (bit_xor p) (sym (xor_assoc q r s) ∙ ap (λ x. bit_xor x s) (xor_comm q r) ∙ xor_assoc r q s)
    ∙ sym (xor_assoc p r (bit_xor q s))

-- a term that two sums share drops out of their sum
xor-drop : (a b c : ℕ) → bit_xor (bit_xor a b) (bit_xor a c) ≡ bit_xor b c
xor-drop a b c = xor4 a b a c ∙ ap (λ x. bit_xor x (bit_xor b c)) (xor_self a)

-- and a term may be put between two
xor-between : (a b c : ℕ) → bit_xor a c ≡ bit_xor (bit_xor a b) (bit_xor b c)
xor-between a b c = sym (ap (λ x. bit_xor x (bit_xor b c)) (xor_comm a b) ∙ xor-drop b a c)

xor-none : (a b : ℕ) → bit_xor a b ≡ 0 → a ≡ b
xor-none a b e = sym (xor_zero_r a) ∙ ap (bit_xor a) (sym (xor_self b)) ∙ sym (xor_assoc a b b) ∙ ap (λ x. bit_xor x b) e

-- a coefficient times a polynomial takes a sum of either to the sum
bit-xor : (x y q : ℕ) → x < 2 → y < 2 → bit_xor x y * q ≡ bit_xor (x * q) (y * q)
bit-xor zero y q hx hy = sym (ap (λ n. bit_xor n (y * q)) (zero-mul q))
bit-xor (suc zero) zero q hx hy = sym (ap (bit_xor (1 * q)) (zero-mul q) ∙ xor_zero_r (1 * q))
bit-xor (suc zero) (suc zero) q hx hy = zero-mul q ∙ sym (xor_self (1 * q))
bit-xor (suc zero) (suc (suc y)) q hx hy = absurd (omega arith)
bit-xor (suc (suc x)) y q hx hy = absurd (omega arith)

xor-bit : (x a b : ℕ) → x < 2 → x * bit_xor a b ≡ bit_xor (x * a) (x * b)
xor-bit zero a b h = zero-mul (bit_xor a b) ∙ sym (ap₂ bit_xor (zero-mul a) (zero-mul b))
xor-bit (suc zero) a b h = one-mul (bit_xor a b) ∙ sym (ap₂ bit_xor (one-mul a) (one-mul b))
xor-bit (suc (suc x)) a b h = absurd (omega arith)

-- and so does x^k times a polynomial
xor-shift : (k a b : ℕ) → bit_xor a b * 2 ^ k ≡ bit_xor (a * 2 ^ k) (b * 2 ^ k)
xor-shift k a b =
    sym (ap₂ bit_xor (sym (add-zero (a * 2 ^ k))) (sym (add-zero (b * 2 ^ k))) ∙ xor_block k a b 0 0 (pow_pos k) (pow_pos k)
    ∙ add-zero (bit_xor a b * 2 ^ k))

-- ---- the product of polynomials

below_power : (p : ℕ) → p < 2 ^ p
below_power zero = lit< tt
below_power (suc p) = omega (arith, below_power p, pow-suc 2 p)

-- where p has no term from x^n on, one more step of the sum adds nothing
terms-more : (n p q : ℕ) → p < 2 ^ n → product_terms (suc n) p q ≡ product_terms n p q
unfolding product_terms coefficient
terms-more n p q h =
    ap (λ x. bit_xor (product_terms n p q) (x % 2 * (q * 2 ^ n))) (div-eq_of_lt h)
    ∙ ap (bit_xor (product_terms n p q)) (zero-mul (q * 2 ^ n)) ∙ xor_zero_r (product_terms n p q)

terms-enough : (m n p q : ℕ) → p < 2 ^ n → n ≤ m → product_terms m p q ≡ product_terms n p q
terms-enough m n p q h l =
    le_ind (λ k. product_terms k p q ≡ product_terms n p q) refl
    (λ k i e. terms-more k p q (lt_of_lt_of_le h (pow_mono i)) ∙ e) m l

-- so the product is the sum over any number of terms that holds all of p
product-terms : (n p q : ℕ) → p < 2 ^ n → product p q ≡ product_terms n p q
unfolding product
product-terms n p q h =
    sym (terms-enough (n + p) p p q (below_power p) (omega arith)) ∙ terms-enough (n + p) n p q h (omega arith)

shift-right : (n p : ℕ) → p / 2 ^ suc n ≡ p / 2 / 2 ^ n
shift-right n p = ap (λ x. p / 2 ^ x) (sym (one-add n)) ∙ sym (shr-shr p 1 n)

shift-left : (n q : ℕ) → q * 2 ^ suc n ≡ q * 2 * 2 ^ n
shift-left n q = ap (λ x. q * x) (pow-suc 2 n ∙ mul_comm (2 ^ n) 2) ∙ sym (mul_assoc q 2 (2 ^ n))

-- the lowest term apart
terms-step : (n p q : ℕ) → product_terms (suc n) p q ≡ bit_xor (p % 2 * q) (product_terms n (p / 2) (q * 2))
unfolding product_terms coefficient
terms-step zero p q =
    ap₂ (λ x y. x % 2 * y) (omega arith) (mul-one q) ∙ sym (xor_zero_r (p % 2 * q))
terms-step (suc n) p q =
    ap₂ bit_xor (terms-step n p q)
    (ap₂ (λ x y. x % 2 * y) (shift-right n p) (shift-left n q))
    ∙ xor_assoc (p % 2 * q) (product_terms n (p / 2) (q * 2)) (p / 2 / 2 ^ n % 2 * (q * 2 * 2 ^ n))

product-step : (p q : ℕ) → product p q ≡ bit_xor (p % 2 * q) (product (p / 2) (q * 2))
product-step p q =
    let h : p < 2 ^ p = below_power p in
    product-terms (suc p) p q (omega (arith, pow-suc 2 p)) ∙ terms-step p p q
    ∙ ap (bit_xor (p % 2 * q)) (sym (product-terms p (p / 2) (q * 2) (omega arith)))

product-zero : (q : ℕ) → product 0 q ≡ 0
unfolding product product_terms
product-zero q = refl

-- the product takes a sum to the sum: on the left, and then on the right, at any number of terms
product-xor : (p r q : ℕ) → product (bit_xor p r) q ≡ bit_xor (product p q) (product r q)
product-xor =
    bin_ind (λ p. (r q : ℕ) → product (bit_xor p r) q ≡ bit_xor (product p q) (product r q))
    (λ r q. sym (ap (λ x. bit_xor x (product r q)) (product-zero q)))
    (λ p ih r q.
    product-step (bit_xor p r) q
    ∙ ap₂ bit_xor
    (ap (λ x. x * q) (xor_mod p r 1) ∙ bit-xor (p % 2) (r % 2) q (omega arith) (omega arith))
    (ap (λ x. product x (q * 2)) (xor_shr p r 1) ∙ ih (r / 2) (q * 2))
    ∙ xor4 (p % 2 * q) (r % 2 * q) (product (p / 2) (q * 2)) (product (r / 2) (q * 2))
    ∙ sym (ap₂ bit_xor (product-step p q) (product-step r q)))

terms-xor : (n p a b : ℕ) → product_terms n p (bit_xor a b) ≡ bit_xor (product_terms n p a) (product_terms n p b)
unfolding product_terms coefficient
terms-xor zero p a b = refl
terms-xor (suc n) p a b =
    ap₂ bit_xor (terms-xor n p a b)
    (ap (λ x. p / 2 ^ n % 2 * x) (xor-shift n a b) ∙ xor-bit (p / 2 ^ n % 2) (a * 2 ^ n) (b * 2 ^ n) (omega arith))
    ∙ xor4 (product_terms n p a) (product_terms n p b) (p / 2 ^ n % 2 * (a * 2 ^ n)) (p / 2 ^ n % 2 * (b * 2 ^ n))

-- and x may be taken out of either factor, the right one and then the left
product-x : (p q : ℕ) → product p (q * 2) ≡ product p q * 2
product-x =
    bin_ind (λ p. (q : ℕ) → product p (q * 2) ≡ product p q * 2)
    (λ q. product-zero (q * 2) ∙ sym (ap (λ x. x * 2) (product-zero q)))
    (λ p ih q.
    product-step p (q * 2)
    ∙ ap₂ bit_xor (sym (mul_assoc (p % 2) q 2)) (ih (q * 2))
    ∙ sym (xor-shift 1 (p % 2 * q) (product (p / 2) (q * 2)))
    ∙ ap (λ x. x * 2) (sym (product-step p q)))

x-product : (p q : ℕ) → product (p * 2) q ≡ product p q * 2
x-product p q =
    product-step (p * 2) q
    ∙ ap₂ (λ x y. bit_xor (x * q) (product y (q * 2))) (mul-mod_left p 2) (mul-div_cancel p (lit< tt))
    ∙ ap (λ x. bit_xor x (product p (q * 2))) (zero-mul q) ∙ product-x p q

-- ---- the multiples of the modulus

multiple-zero : Multiple 0
multiple-zero = record { quotient = 0; exact = sym (product-zero modulus) }

multiple-modulus : Multiple modulus
unfolding product product_terms coefficient modulus
multiple-modulus = record { quotient = 1; exact = refl }

multiple-sum : {a b : ℕ} → Multiple a → Multiple b → Multiple (bit_xor a b)
multiple-sum h k = record {
  quotient = bit_xor h.quotient k.quotient;
  exact = ap₂ bit_xor h.exact k.exact ∙ sym (product-xor h.quotient k.quotient modulus);
}

multiple-x : {a : ℕ} → Multiple a → Multiple (a * 2)
multiple-x h = record {
  quotient = h.quotient * 2;
  exact = ap (λ x. x * 2) h.exact ∙ sym (x-product h.quotient modulus);
}

multiple-bit : (x : ℕ) {a : ℕ} → x < 2 → Multiple a → Multiple (x * a)
multiple-bit zero {a} h k = subst Multiple (sym (zero-mul a)) multiple-zero
multiple-bit (suc zero) {a} h k = subst Multiple (sym (one-mul a)) k
multiple-bit (suc (suc x)) h k = absurd (omega arith)

-- any polynomial times a multiple
multiple-terms : (n p : ℕ) {a : ℕ} → Multiple a → Multiple (product_terms n p a)
unfolding product_terms
multiple-terms zero p h = multiple-zero
multiple-terms (suc n) p {a} h =
    subst Multiple (sym (terms-step n p a))
    (multiple-sum (multiple-bit (p % 2) (omega arith) h) (multiple-terms n (p / 2) (multiple-x h)))

-- ---- the product in the field: what is reduced differs from what is not by a multiple of the modulus

-- x^8 and x^7 + x^6 + x + 1 differ by the modulus
bit-modulus : (b : ℕ) → b < 2 → bit_xor (b * 256) (b * 195) ≡ b * modulus
unfolding modulus
bit-modulus zero h = refl
bit-modulus (suc zero) h = refl
bit-modulus (suc (suc b)) h = absurd (omega arith)

-- so the product by x in the field differs from the product by x by a multiple of the modulus
times_x-is : (a : ℕ) → a < 256 → bit_xor (a * 2) (times_x a) ≡ a / 128 * modulus
unfolding times_x
times_x-is a h =
    let e : a * 2 ≡ bit_xor (a % 128 * 2) (a / 128 * 256) =
    (omega arith) ∙ sym (xor_shifted (a / 128) 8 (a % 128 * 2) (omega arith)) ∙ xor_comm (a / 128 * 256) (a % 128 * 2) in
    ap (λ x. bit_xor x (bit_xor (a % 128 * 2) (a / 128 * 195))) e
    ∙ xor-drop (a % 128 * 2) (a / 128 * 256) (a / 128 * 195) ∙ bit-modulus (a / 128) (omega arith)

times_x-multiple : (a : ℕ) → a < 256 → Multiple (bit_xor (a * 2) (times_x a))
times_x-multiple a h = subst Multiple (sym (times_x-is a h)) (multiple-bit (a / 128) (omega arith) multiple-modulus)

times_x-lt : (a : ℕ) → a < 256 → times_x a < 256
unfolding times_x
times_x-lt a h = xor_lt 8 (a % 128 * 2) (a / 128 * 195) (omega arith) (omega arith)

bit-lt : (x a : ℕ) → x < 2 → a < 256 → x * a < 256
bit-lt zero a h k = rw zero-mul (lit< tt)
bit-lt (suc zero) a h k = rw one-mul k
bit-lt (suc (suc x)) a h k = absurd (omega arith)

multiply_terms-lt : (n c a : ℕ) → a < 256 → multiply_terms n c a < 256
unfolding multiply_terms
multiply_terms-lt zero c a h = lit< tt
multiply_terms-lt (suc n) c a h =
    xor_lt 8 (c % 2 * a) (multiply_terms n (c / 2) (times_x a)) (bit-lt (c % 2) a (omega arith) h)
    (multiply_terms-lt n (c / 2) (times_x a) (times_x-lt a h))

-- the sums over n terms of c differ by a multiple too: the rest of the first starts from a times x, that of the second
-- from times_x a, and between them stands the unreduced sum that starts from times_x a
terms-differ : (n c a : ℕ) → a < 256 → Multiple (bit_xor (product_terms n c a) (multiply_terms n c a))
unfolding multiply_terms product_terms
terms-differ zero c a h = multiple-zero
terms-differ (suc n) c a h =
    let s : ℕ = product_terms n (c / 2) (times_x a) in
    let t : ℕ = product_terms n (c / 2) (a * 2) in
    let u : ℕ = multiply_terms n (c / 2) (times_x a) in
    let first : Multiple (bit_xor t s) =
    subst Multiple (terms-xor n (c / 2) (a * 2) (times_x a)) (multiple-terms n (c / 2) (times_x-multiple a h)) in
    let rest : Multiple (bit_xor s u) = terms-differ n (c / 2) (times_x a) (times_x-lt a h) in
    subst Multiple
    (sym (ap (λ x. bit_xor x (bit_xor (c % 2 * a) u)) (terms-step n c a) ∙ xor-drop (c % 2 * a) t u ∙ xor-between t s u))
    (multiple-sum first rest)

multiply-remains : (c a : ℕ) → c < 256 → a < 256 → Remainder (product c a) (multiply c a)
unfolding multiply
multiply-remains c a hc ha = record {
  small = multiply_terms-lt 8 c a ha;
  differs = subst (λ x. Multiple (bit_xor x (multiply_terms 8 c a))) (sym (product-terms 8 c a hc)) (terms-differ 8 c a ha);
}

-- ---- there is no other remainder

zero-or-more : (n : ℕ) → (n ≡ 0) ⊎ (0 < n)
zero-or-more zero = inl refl
zero-or-more (suc n) = inr (omega arith)

-- the modulus has degree 8, and where the quotient has a higher term, so has the multiple
large-one : 256 ≤ product 1 modulus
unfolding product product_terms coefficient modulus
large-one = lit≤ tt

low_bits : (k : ℕ) → k % 2 * modulus < 512
unfolding modulus
low_bits k = omega arith

large-more : (k : ℕ) → 256 ≤ product (k / 2) modulus → 256 ≤ product k modulus
large-more k h =
    let b : ℕ = k % 2 * modulus in
    let p : ℕ = product (k / 2) modulus in
    let e : product k modulus ≡ bit_xor b (p * 2) = product-step k modulus ∙ ap (bit_xor b) (product-x (k / 2) modulus) in
    let d : bit_xor b (p * 2) / 512 ≡ p * 2 / 512 =
    xor_shr b (p * 2) 9 ∙ ap (λ x. bit_xor x (p * 2 / 512)) (div-eq_of_lt (low_bits k)) in
    omega arith

-- the degree of a multiple, unless it is zero, is 8 or more
multiple-large : (k : ℕ) → 0 < k → 256 ≤ product k modulus
multiple-large =
    bin_ind (λ k. 0 < k → 256 ≤ product k modulus) (λ h. absurd (omega arith))
    (λ k ih h. elim (zero-or-more (k / 2)) [
      | inl e ↦ let one : 1 ≡ k = omega arith in subst (λ x. 256 ≤ product x modulus) one large-one
      | inr l ↦ large-more k (ih l)
    ])

remainder-only : {p r s : ℕ} → Remainder p r → Remainder p s → s ≡ r
remainder-only {p} {r} {s} h k =
    let m : Multiple (bit_xor s r) = subst Multiple (xor-drop p s r) (multiple-sum k.differs h.differs) in
    let l : bit_xor s r < 256 = xor_lt 8 s r k.small h.small in
    elim (zero-or-more m.quotient) [
      | inl e ↦ xor-none s r (m.exact ∙ ap (λ x. product x modulus) e ∙ product-zero modulus)
      | inr g ↦ absurd (omega (arith, m.exact, multiple-large m.quotient g))
    ]

pub multiply-is-product : MultiplyIsProduct
multiply-is-product c a hc ha =
    let h = multiply-remains c a hc ha in record { remains = h; only = λ s k. remainder-only h k }
