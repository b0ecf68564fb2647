-- The field of 256 elements in which Kuznyechik's linear transformation works: polynomials over two elements modulo
-- x^8 + x^7 + x^6 + x + 1. A byte's bits are the coefficients, the highest bit that of x^7.
use Rattle.std.specs.Prelude.{◌≡◌, ℕ, zero, suc, ◌+◌, ◌*◌, ◌/◌, ◌%◌, ◌^◌, ◌<◌, bit_xor}

-- the product of a by x: x^8 is x^7 + x^6 + x + 1, which is 195
unfoldable pub times_x : ℕ → ℕ
times_x a = bit_xor (a % 128 * 2) (a / 128 * 195)

-- the product of a by the n low terms of c
unfoldable pub multiply_terms : ℕ → ℕ → ℕ → ℕ
multiply_terms zero c a = 0
multiply_terms (suc n) c a = bit_xor (c % 2 * a) (multiply_terms n (c / 2) (times_x a))

unfoldable pub multiply : ℕ → ℕ → ℕ
multiply c a = multiply_terms 8 c a

-- ---- What the field is. A polynomial over two elements is a number, whose bit i is the coefficient of x^i. The sum of
-- two, which is also their difference, is bit_xor, and q * 2 ^ i is q times x^i.

-- the coefficient of x^i
unfoldable pub coefficient : ℕ → ℕ → ℕ
coefficient i p = p / 2 ^ i % 2

-- the sum of the products of q by each term of p below x^n
unfoldable pub product_terms : ℕ → ℕ → ℕ → ℕ
product_terms zero p q = 0
product_terms (suc n) p q = bit_xor (product_terms n p q) (coefficient n p * (q * 2 ^ n))

-- the product of two polynomials, with nothing reduced: p is below 2 ^ p, so all its terms are below x^p
unfoldable pub product : ℕ → ℕ → ℕ
product p q = product_terms p p q

-- x^8 + x^7 + x^6 + x + 1
unfoldable pub modulus : ℕ
modulus = 2 ^ 8 + 2 ^ 7 + 2 ^ 6 + 2 + 1

-- the modulus divides p
pub record Multiple (p : ℕ) : Type 0 where
  pub quotient : ℕ
  pub exact : p ≡ product quotient modulus

-- r is the remainder of p by the modulus: its degree is below 8, and it differs from p by a multiple
pub record Remainder (p r : ℕ) : Type 0 where
  pub small : r < 256
  pub differs : Multiple (bit_xor p r)

-- r is the product of c and a in the field: the remainder of their product as polynomials, of which there is one only
pub record FieldProduct (c a r : ℕ) : Type 0 where
  pub remains : Remainder (product c a) r
  pub only : (s : ℕ) → Remainder (product c a) s → s ≡ r

-- `multiply` is the product in the field
abbrev pub MultiplyIsProduct : Type 0
MultiplyIsProduct = (c a : ℕ) → c < 256 → a < 256 → FieldProduct c a (multiply c a)
