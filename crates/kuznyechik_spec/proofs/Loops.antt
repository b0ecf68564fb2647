-- The steps of the loops in the plain cipher.
use Rattle.std.proofs.Common.{◌≡◌, ℕ, zero, suc, ◌+◌, ◌-◌, ◌*◌, ◌/◌, ◌%◌, ◌<◌, ◌≤◌, T, eqb, List, [], ◌∷◌, ◌++◌, map, length, get_or, take, drop, set, sym, refl, ap, ◌∙◌, ap₂, one-mul, zero-mul, add-one, arith, eqb→eq, drop-cons}
use lib.Bits.{bit_xor, xor_assoc, xor_zero_r, xor_comm}
use lib.Lanes.{zip2}
use Rattle.std.specs.List.{fold, zip}
use Rattle.std.proofs.lemmas.List.{drop_all}
use Rattle.kuznyechik_spec.specs.Field.{times_x, multiply_terms, multiply}
use Rattle.kuznyechik_spec.specs.Kuznyechik.{dot_product, linear, transform_r, inverse_r, repeated, substitution_inverse, InverseTable}
use Rattle.kuznyechik_spec.proofs.Computed.{every, up_to, below}

pub times_x-low : (a : ℕ) → a < 128 → a * 2 ≡ times_x a
unfolding times_x
times_x-low a h =
    let m : a % 128 ≡ a = omega arith in
    let d : a / 128 ≡ 0 = omega arith in
    sym (ap₂ (λ x y. bit_xor (x * 2) (y * 195)) m d ∙ xor_zero_r (a * 2))

pub times_x-high : (a : ℕ) → 128 ≤ a → a < 256 → bit_xor ((a - 128) * 2) 195 ≡ times_x a
unfolding times_x
times_x-high a h k =
    let m : a % 128 ≡ a - 128 = omega arith in
    let d : a / 128 ≡ 1 = omega arith in
    sym (ap₂ (λ x y. bit_xor (x * 2) (y * 195)) m d)

pub multiply-more : (i sum rest term : ℕ) → i < 8
    → bit_xor (bit_xor sum (rest % 2 * term)) (multiply_terms (8 - (i + 1)) (rest / 2) (times_x term)) ≡ bit_xor sum (multiply_terms (8 - i) rest term)
unfolding multiply_terms
multiply-more i sum rest term h =
    let e : 8 - i ≡ suc (8 - (i + 1)) = omega arith in
    xor_assoc sum (rest % 2 * term) (multiply_terms (8 - (i + 1)) (rest / 2) (times_x term))
    ∙ ap (bit_xor sum) (sym (ap (λ m. multiply_terms m rest term) e))

-- the products summed from the front
pub products-summed : (cs xs : List ℕ) (s : ℕ) → fold (λ t p. bit_xor t (multiply p.0 p.1)) s (zip cs xs) ≡ bit_xor s (dot_product cs xs)
unfolding dot_product
products-summed [] xs s = sym (xor_zero_r s)
products-summed (c ∷ cs) [] s = sym (xor_zero_r s)
products-summed (c ∷ cs) (x ∷ xs) s = products-summed cs xs (bit_xor s (multiply c x)) ∙ xor_assoc s (multiply c x) (dot_product cs xs)

pub repeated-more : (i n : ℕ) (f : List ℕ → List ℕ) (a : List ℕ) → i < n → repeated (n - (i + 1)) f (f a) ≡ repeated (n - i) f a
unfolding repeated
repeated-more i n f a h = let e : n - i ≡ suc (n - (i + 1)) = omega arith in sym (ap (λ m. repeated m f a) e)

pub repeated-all : (i n : ℕ) (f : List ℕ → List ℕ) (a : List ℕ) → n ≤ i → repeated (n - i) f a ≡ a
unfolding repeated
repeated-all i n f a h = let e : n - i ≡ 0 = omega arith in ap (λ m. repeated m f a) e

-- what rotating leaves
pub rotated-right : (x : ℕ) (a : List ℕ) → length a ≡ 16 → x ≡ linear a → set (drop (length a - 1) a ++ take (length a - 1) a) 0 x ≡ transform_r a
unfolding transform_r
rotated-right x a n e =
    ap (λ m. set (drop (m - 1) a ++ take (m - 1) a) 0 x) n
    ∙ ap (λ l. set (l ++ take 15 a) 0 x) (drop-cons a 15 0 (omega arith))
    ∙ ap₂ (λ y l. y ∷ (l ++ take 15 a)) e (drop_all 16 a (omega arith))

set_last : (n : ℕ) (xs : List ℕ) (b x : ℕ) → length xs ≡ n → set (xs ++ (b ∷ [])) n x ≡ xs ++ (x ∷ [])
set_last zero [] b x e = refl
set_last zero (y ∷ xs) b x e = absurd (omega arith)
set_last (suc n) [] b x e = absurd (omega arith)
set_last (suc n) (y ∷ xs) b x e = ap (λ l. y ∷ l) (set_last n xs b x (omega arith))

pub rotated-left : (x : ℕ) (a : List ℕ) → length a ≡ 16 → x ≡ linear (drop 1 a ++ take 1 a) → set (drop 1 a ++ take 1 a) 15 x ≡ inverse_r a
unfolding inverse_r
rotated-left x [] n e = absurd (omega arith)
rotated-left x (b ∷ bs) n e = set_last 15 bs b x (omega arith) ∙ ap (λ y. bs ++ (y ∷ [])) e

-- the sum at each place
pub added : (ks xs : List ℕ) (i : ℕ) → i < length ks → i < length xs → bit_xor (get_or xs i 0) (get_or ks i 0) ≡ get_or (zip2 bit_xor ks xs) i 0
added [] xs i h j = absurd (omega arith)
added (k ∷ ks) [] i h j = absurd (omega arith)
added (k ∷ ks) (x ∷ xs) zero h j = xor_comm x k
added (k ∷ ks) (x ∷ xs) (suc i) h j = added ks xs i (omega arith) (omega arith)

-- the inverse of π as a table, tested at each of its entries
pub inverse-tested : (t : List ℕ) → T (every (λ v. eqb (get_or t v 0) (substitution_inverse v)) (up_to 256 0)) → InverseTable t
inverse-tested t test = record { at = λ v h. eqb→eq (get_or t v 0) (substitution_inverse v) (below (λ v. eqb (get_or t v 0) (substitution_inverse v)) 256 test v h) }

-- the loop that maps in place
pub mapped-more : (f : ℕ → ℕ) (xs ys : List ℕ) (i y : ℕ) → i < length xs → ys ≡ map f (take i xs) ++ drop i xs
    → y ≡ f (get_or ys i 0) → set ys i y ≡ map f (take (i + 1) xs) ++ drop (i + 1) xs
mapped-more f xs ys i y h e is =
    ap (set ys i) is ∙ ap (λ l. set l i (f (get_or l i 0))) e ∙ go xs i h ∙ ap (λ m. map f (take m xs) ++ drop m xs) (sym (add-one i))
  where
    go : (xs : List ℕ) (i : ℕ) → i < length xs
        → set (map f (take i xs) ++ drop i xs) i (f (get_or (map f (take i xs) ++ drop i xs) i 0)) ≡ map f (take (suc i) xs) ++ drop (suc i) xs
    go [] i h = absurd (omega arith)
    go (x ∷ xs) zero h = refl
    go (x ∷ xs) (suc i) h = ap (λ l. f x ∷ l) (go xs i (omega arith))

pub whole : (xs : List ℕ) (i : ℕ) → length xs ≤ i → (take i xs ≡ xs) × (drop i xs ≡ [])
whole [] zero h = (refl, refl)
whole [] (suc i) h = (refl, refl)
whole (x ∷ xs) zero h = absurd (omega arith)
whole (x ∷ xs) (suc i) h = let w = whole xs i (omega arith) in (ap (λ l. x ∷ l) w.0, w.1)

join-none : (xs : List ℕ) → xs ++ [] ≡ xs
join-none [] = refl
join-none (x ∷ xs) = ap (λ l. x ∷ l) (join-none xs)

pub mapped-all : (f : ℕ → ℕ) (xs : List ℕ) (i : ℕ) → length xs ≤ i → map f (take i xs) ++ drop i xs ≡ map f xs
mapped-all f xs i h = let w = whole xs i h in ap₂ (λ l m. map f l ++ m) w.0 w.1 ∙ join-none (map f xs)

pub added-all : (ks xs : List ℕ) (i : ℕ) → length (zip2 bit_xor ks xs) ≤ i → length xs ≤ i → take i (zip2 bit_xor ks xs) ++ drop i xs ≡ zip2 bit_xor ks xs
added-all ks xs i h j = ap₂ (λ l m. l ++ m) (whole (zip2 bit_xor ks xs) i h).0 (whole xs i j).1 ∙ join-none (zip2 bit_xor ks xs)

pub multiply-all : (i sum rest term : ℕ) → 8 ≤ i → bit_xor sum (multiply_terms (8 - i) rest term) ≡ sum
unfolding multiply_terms
multiply-all i sum rest term h = let e : 8 - i ≡ 0 = omega arith in ap (λ m. bit_xor sum (multiply_terms m rest term)) e ∙ xor_zero_r sum

-- what a turn adds, by the lowest bit of rest
pub odd-sum : (sum rest term : ℕ) → rest % 2 ≡ 1 → bit_xor sum term ≡ bit_xor sum (rest % 2 * term)
odd-sum sum rest term e = ap (bit_xor sum) (sym (ap (λ b. b * term) e ∙ one-mul term))

pub even_sum : (sum rest term : ℕ) → rest % 2 ≡ 0 → sum ≡ bit_xor sum (rest % 2 * term)
even_sum sum rest term e = sym (ap (bit_xor sum) (ap (λ b. b * term) e ∙ zero-mul term) ∙ xor_zero_r sum)
