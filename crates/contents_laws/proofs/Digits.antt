-- The digits that a sheet has for bytes and for a length.
use Rattle.std.proofs.Common.{◌≡◌, ℕ, ◌+◌, ◌-◌, ◌*◌, ◌/◌, ◌%◌, ◌^◌, ◌<◌, ◌≤◌, true, false, cond, ◌&&◌, ltb, leb, ◌⊎◌, List, [], ◌∷◌, ◌++◌, length, get_or, is_some, Some, None, decimal, Option, unwrap_or, refl, ap, ap₂, inl, inr, ⊎_elim, arith}
use Rattle.std.specs.List.{AllByRecursion}
use Rattle.std.proofs.lemmas.Fmt.{decimal_digit, decimal_by_steps, length-decimal-le, decimal_nonempty, first_decimal}
use Rattle.std.proofs.lemmas.Bool.{cases_Bool, cases_lt, and_parts, leb-true, le-leb, lt-leb, lt-ltb, le-ltb, ne_eqb}
use Rattle.hex_digits.specs.Hex.{hex_value, is_hex_digit, all_hex_digits, hex_bytes}
use Rattle.sheet_format.specs.Digits.{is_decimal_digit, decimal_from, needless_zero, decimal_of}
use Rattle.sheet_laws.proofs.Clash.{clash}

-- the digit of a number below 16
abbrev pub hex_digit : ℕ → ℕ
hex_digit d = cond (ltb d 10) (48 + d) (87 + d)

abbrev pub hex_text : List ℕ → List ℕ
hex_text [] = []
hex_text (x ∷ xs) = hex_digit (x / 16) ∷ hex_digit (x % 16) ∷ hex_text xs

value-of-digit : (d : ℕ) → d < 16 → hex_value (hex_digit d) ≡ Some d
value-of-digit d h =
    ⊎_elim
    (λ (t : d < 10).
    let v : 48 + d - 48 ≡ d = omega arith in
    rw (lt-ltb d 10 t, le-leb 48 (48 + d) (omega arith), le-leb (48 + d) 57 (omega arith), v))
    (λ (t : 10 ≤ d).
    let v : 87 + d - 97 + 10 ≡ d = omega arith in
    rw (le-ltb d 10 t, le-leb 48 (87 + d) (omega arith), lt-leb (87 + d) 57 (omega arith), le-leb 97 (87 + d) (omega arith), le-leb (87 + d) 102 (omega arith), v))
    (cases_lt d 10)

-- a digit is that of its value
pub digit-of-value : (x d : ℕ) → hex_value x ≡ Some d → (d < 16) × (hex_digit d ≡ x)
digit-of-value x d e =
    ⊎_elim
    (λ (t : (leb 48 x && leb x 57) ≡ true).
    let p = and_parts (leb 48 x) (leb x 57) t in
    let low : 48 ≤ x = leb-true 48 x p.0 in
    let high : x ≤ 57 = leb-true x 57 p.1 in
    let e₁ : Some (x - 48) ≡ Some d = rw t at e in
    let q : x - 48 ≡ d = cc in
    let small : d < 10 = omega arith in
    (omega arith, rw (lt-ltb d 10 small) (let s : 48 + d ≡ x = omega arith in s)))
    (λ (t : (leb 48 x && leb x 57) ≡ false).
    ⊎_elim
    (λ (u : (leb 97 x && leb x 102) ≡ true).
    let p = and_parts (leb 97 x) (leb x 102) u in
    let low : 97 ≤ x = leb-true 97 x p.0 in
    let high : x ≤ 102 = leb-true x 102 p.1 in
    let e₁ : Some (x - 97 + 10) ≡ Some d = rw (t, u) at e in
    let q : x - 97 + 10 ≡ d = cc in
    let large : 10 ≤ d = omega arith in
    (omega arith, rw (le-ltb d 10 large) (let s : 87 + d ≡ x = omega arith in s)))
    (λ (u : (leb 97 x && leb x 102) ≡ false).
    let e₁ : None ≡ Some d = rw (t, u) at e in
    clash (cc))
    (cases_Bool (leb 97 x && leb x 102)))
    (cases_Bool (leb 48 x && leb x 57))

-- the value of a digit
pub some-value : (o : Option ℕ) → is_some o ≡ true → (d : ℕ) × (o ≡ Some d)
some-value None e = clash (cc)
some-value (Some d) e = (d, refl)

abbrev pub Bytes : List ℕ → Type 0
Bytes xs = AllByRecursion (λ x. x < 256) xs

pub bytes-of-text : (xs : List ℕ) → Bytes xs → hex_bytes (hex_text xs) ≡ xs
bytes-of-text [] h = refl
bytes-of-text (x ∷ xs) h =
    let small : x < 256 = h.0 in
    let v : 16 * (x / 16) + x % 16 ≡ x = omega arith in
    rw (value-of-digit (x / 16) (omega arith), value-of-digit (x % 16) (omega arith), v, bytes-of-text xs h.1)

pub digits-of-text : (xs : List ℕ) → Bytes xs → all_hex_digits (hex_text xs) ≡ true
digits-of-text [] h = refl
digits-of-text (x ∷ xs) h =
    let small : x < 256 = h.0 in
    rw (value-of-digit (x / 16) (omega arith), value-of-digit (x % 16) (omega arith), digits-of-text xs h.1)

pub length-text : (xs : List ℕ) → length (hex_text xs) ≡ 2 * length xs
length-text [] = refl
length-text (x ∷ xs) = let h = length-text xs in omega arith

-- two digits are those of the byte that they mean
pair-back : (x y a b : ℕ) → hex_value x ≡ Some a → hex_value y ≡ Some b
    → (hex_digit ((16 * unwrap_or (hex_value x) 0 + unwrap_or (hex_value y) 0) / 16) ≡ x)
    × (hex_digit ((16 * unwrap_or (hex_value x) 0 + unwrap_or (hex_value y) 0) % 16) ≡ y)
    × (16 * unwrap_or (hex_value x) 0 + unwrap_or (hex_value y) 0 < 256)
pair-back x y a b e f =
    let u = digit-of-value x a e in
    let v = digit-of-value y b f in
    let small : a < 16 = u.0 in
    let little : b < 16 = v.0 in
    let high : (16 * a + b) / 16 ≡ a = omega arith in
    let low : (16 * a + b) % 16 ≡ b = omega arith in
    rw (e, f) (rw high u.1, rw low v.1, omega arith)

-- an even number of digits is the text of its bytes
pub text-of-bytes : (k : ℕ) (ds : List ℕ) → length ds ≡ 2 * k → all_hex_digits ds ≡ true → (hex_text (hex_bytes ds) ≡ ds) × Bytes (hex_bytes ds)
text-of-bytes k [] n h = (refl, tt)
text-of-bytes k (x ∷ []) n h = absurd (let f : ⊥ = omega arith in f)
text-of-bytes k (x ∷ y ∷ ds) n h =
    let p = and_parts (is_hex_digit x) (is_hex_digit y && all_hex_digits ds) h in
    let q = and_parts (is_hex_digit y) (all_hex_digits ds) p.1 in
    let a = some-value (hex_value x) p.0 in
    let b = some-value (hex_value y) q.0 in
    let s = pair-back x y a.0 b.0 a.1 b.1 in
    let r = text-of-bytes (k - 1) ds (omega arith) q.1 in
    (ap₂ ◌∷◌ s.0 (ap₂ ◌∷◌ s.1 r.0), (s.2, r.1))

-- A length as decimal digits.

from-push : (n : ℕ) (ds : List ℕ) (m d : ℕ) → decimal_from n ds ≡ Some m → d < 10 → decimal_from n (ds ++ (48 + d) ∷ []) ≡ Some (m * 10 + d)
from-push n [] m d e h =
    let v : 48 + d - 48 ≡ d = omega arith in
    let s : n ≡ m = cc in
    rw (le-leb 48 (48 + d) (omega arith), le-leb (48 + d) 57 (omega arith), v, s)
from-push n (x ∷ ds) m d e h =
    ⊎_elim
    (λ (t : is_decimal_digit x ≡ true). rw t (from-push (n * 10 + (x - 48)) ds m d (rw t at e) h))
    (λ (t : is_decimal_digit x ≡ false).
    let c : None ≡ Some m = rw t at e in
    clash (cc))
    (cases_Bool (is_decimal_digit x))

from-decimal : (n : ℕ) → n < 2 ^ 64 → decimal_from 0 (decimal n) ≡ Some n
from-decimal =
    decimal_by_steps (λ n ds. decimal_from 0 ds ≡ Some n)
    (λ n h.
    let v : 0 * 10 + (48 + n - 48) ≡ n = omega arith in
    rw (le-leb 48 (48 + n) (omega arith), le-leb (48 + n) 57 (omega arith), v))
    (λ n ds h e.
    let v : n / 10 * 10 + n % 10 ≡ n = omega arith in
    rw v at (from-push 0 ds (n / 10) (n % 10) e (omega arith)))

-- digits of which the first is above 48, or just one
unpadded-if : (ds : List ℕ) → (length ds ≡ 1) ⊎ (48 < get_or ds 0 0) → needless_zero ds ≡ false
unpadded-if [] h = refl
unpadded-if (x ∷ []) h = refl
unpadded-if (x ∷ y ∷ ds) h =
    ne_eqb x 48 (λ e. ⊎_elim (λ (l : length (x ∷ y ∷ ds) ≡ 1). omega arith) (λ (l : 48 < x). omega arith) h)

unpadded : (n : ℕ) → n < 2 ^ 64 → needless_zero (decimal n) ≡ false
unpadded n h =
    ⊎_elim
    (λ (t : n < 10). unpadded-if (decimal n) (inl (ap length (decimal_digit n t))))
    (λ (t : 10 ≤ n). unpadded-if (decimal n) (inr (first_decimal n (omega arith) h)))
    (cases_lt n 10)

decimal-found : (ds : List ℕ) (n : ℕ) → 0 < length ds → length ds ≤ 7 → decimal_from 0 ds ≡ Some n → needless_zero ds ≡ false
    → decimal_of ds ≡ Some (record { value = n; padded = false })
decimal-found [] n some few e z = absurd (let f : ⊥ = omega arith in f)
decimal-found (x ∷ ds) n some few e z = rw (le-leb (length (x ∷ ds)) 7 few, e, z)

pub decimal-read : (n : ℕ) → n ≤ 1048576 → decimal_of (decimal n) ≡ Some (record { value = n; padded = false })
decimal-read n h =
    let fits : n < 2 ^ 64 = omega arith in
    decimal-found (decimal n) n (decimal_nonempty n fits) (length-decimal-le 7 n (omega arith) (omega arith) fits) (from-decimal n fits) (unpadded n fits)

pub decimal-short : (n : ℕ) → n ≤ 1048576 → length (decimal n) ≤ 7
decimal-short n h = length-decimal-le 7 n (omega arith) (omega arith) (omega arith)
