-- What the sum of sixteen entries of a table is, and back from the number to the block.
use Rattle.std.proofs.Common.{◌≡◌, ℕ, zero, suc, ◌+◌, ◌*◌, ◌/◌, ◌%◌, ◌^◌, ◌<◌, ◌≤◌, List, [], ◌∷◌, map, length, get_or, drop, sym, refl, ap, ◌∙◌, subst, ap₂, pow-suc, div-one, add-one, arith, drop-cons}
use native.Mathlib.Nat.{div-div-eq-div-mul}
use lib.Bits.{bit_xor, xor_assoc, xor_zero_l, xor_zero_r}
use Rattle.std.specs.List.{fold, zip}
use Rattle.std.proofs.lemmas.List.{drop_all, get_or-map, length-map}
use Rattle.block.specs.Blocks.{Block, Bytes}
use Rattle.kuznyechik_spec.specs.Kuznyechik.{transform_l, inverse_l, inverse_s, transform_s, substitution, substitution_inverse}
use Rattle.kuznyechik_spec.specs.Tables.{number, byte_at, entry_sum, lookup_sum, Holds, round_entry, inverse_entry}
use Rattle.kuznyechik_spec.proofs.Linear.{transform_l-block, transform_l-xor, inverse_l-block, inverse_l-xor}
use Rattle.kuznyechik_spec.proofs.Cipher.{transform_s-block}
use Rattle.kuznyechik_spec.proofs.Places.{entry_sum-map, by-places}

entry_sum-holds : (e : ℕ → ℕ → ℕ) (t : List (List ℕ)) → Holds e t → (xs : List ℕ) (p : ℕ) → p + length xs ≤ 16 → Bytes xs
    → entry_sum (λ q v. get_or (get_or t q []) v 0) p xs ≡ entry_sum e p xs
unfolding entry_sum
entry_sum-holds e t h [] p n b = refl
entry_sum-holds e t h (x ∷ xs) p n b =
    ap₂ bit_xor (h.at p x (omega arith) b.0) (entry_sum-holds e t h xs (suc p) (omega arith) b.1)

pub lookup-round : (t : List (List ℕ)) → Holds round_entry t → (a : List ℕ) → Block 16 a → lookup_sum t a ≡ number 0 (transform_l (transform_s a))
unfolding lookup_sum round_entry transform_s
lookup-round t h a b =
    entry_sum-holds round_entry t h a 0 (omega (arith, b.long)) b.bytes
    ∙ entry_sum-map (λ q y. number 0 (transform_l (byte_at 16 q y))) substitution 0 a
    ∙ by-places transform_l transform_l-block transform_l-xor (map substitution a) (transform_s-block a b)

pub lookup-inverse : (t : List (List ℕ)) → Holds inverse_entry t → (a : List ℕ) → Block 16 a → lookup_sum t a ≡ number 0 (inverse_l a)
unfolding lookup_sum inverse_entry
lookup-inverse t h a b =
    entry_sum-holds inverse_entry t h a 0 (omega (arith, b.long)) b.bytes ∙ by-places inverse_l inverse_l-block inverse_l-xor a b

-- ---- the loop that looks up and sums

abbrev pub entry_of : List (List ℕ) → ℕ → ℕ → ℕ
entry_of t p v = get_or (get_or t p []) v 0

zip-none : {A : Type 0} (rows : List A) → zip {X = ℕ} rows [] ≡ []
zip-none [] = refl
zip-none (r ∷ rs) = refl

looked-up : (t : List (List ℕ)) (a : List ℕ) (p sum : ℕ) → p + length a ≤ length t
    → fold (λ s y. bit_xor s (get_or y.0 y.1 0)) sum (zip (drop p t) a) ≡ bit_xor sum (entry_sum (entry_of t) p a)
unfolding entry_sum
looked-up t [] p sum h = ap (fold (λ s y. bit_xor s (get_or y.0 y.1 0)) sum) (zip-none (drop p t)) ∙ sym (xor_zero_r sum)
looked-up t (x ∷ a) p sum h =
    ap (λ l. fold (λ s y. bit_xor s (get_or y.0 y.1 0)) sum (zip l (x ∷ a))) (drop-cons t p [] (omega arith))
    ∙ looked-up t a (suc p) (bit_xor sum (entry_of t p x)) (omega arith)
    ∙ xor_assoc sum (entry_of t p x) (entry_sum (entry_of t) (suc p) a)

-- the entries of the rows, one for each byte, summed from the front
pub lookup-folded : (t : List (List ℕ)) (a : List ℕ) → length a ≤ length t → fold (λ s y. bit_xor s (get_or y.0 y.1 0)) 0 (zip t a) ≡ lookup_sum t a
unfolding lookup_sum
lookup-folded t a h = looked-up t a 0 0 (omega arith) ∙ xor_zero_l (entry_sum (entry_of t) 0 a)

pub lookup-more : (t : List (List ℕ)) (a : List ℕ) (p sum : ℕ) → p < length a
    → bit_xor (bit_xor sum (entry_of t p (get_or a p 0))) (entry_sum (entry_of t) (p + 1) (drop (p + 1) a))
    ≡ bit_xor sum (entry_sum (entry_of t) p (drop p a))
unfolding entry_sum
lookup-more t a p sum h =
    xor_assoc sum (entry_of t p (get_or a p 0)) (entry_sum (entry_of t) (p + 1) (drop (p + 1) a))
    ∙ ap (bit_xor sum)
    (ap (λ m. bit_xor (entry_of t p (get_or a p 0)) (entry_sum (entry_of t) m (drop m a))) (add-one p)
    ∙ sym (ap (entry_sum (entry_of t) p) (drop-cons a p 0 h)))

pub lookup-all : (t : List (List ℕ)) (a : List ℕ) (p sum : ℕ) → length a ≤ p
    → bit_xor sum (entry_sum (entry_of t) p (drop p a)) ≡ sum
unfolding entry_sum
lookup-all t a p sum h = ap (λ l. bit_xor sum (entry_sum (entry_of t) p l)) (drop_all p a h) ∙ xor_zero_r sum

-- the same, with the inverse of S of each byte
pub lookup-inverse-more : (t : List (List ℕ)) (a : List ℕ) (p sum v : ℕ) → p < length a → v ≡ substitution_inverse (get_or a p 0)
    → bit_xor (bit_xor sum (entry_of t p v)) (entry_sum (entry_of t) (p + 1) (drop (p + 1) (inverse_s a)))
    ≡ bit_xor sum (entry_sum (entry_of t) p (drop p (inverse_s a)))
unfolding inverse_s
lookup-inverse-more t a p sum v h e =
    ap (λ w. bit_xor (bit_xor sum (entry_of t p w)) (entry_sum (entry_of t) (p + 1) (drop (p + 1) (inverse_s a))))
    (e ∙ sym (get_or-map substitution_inverse a p 0 0 h))
    ∙ lookup-more t (inverse_s a) p sum (subst (λ n. p < n) (sym (length-map a substitution_inverse)) h)

pub lookup-inverse-all : (t : List (List ℕ)) (a : List ℕ) (p sum : ℕ) → length a ≤ p
    → bit_xor sum (entry_sum (entry_of t) p (drop p (inverse_s a))) ≡ sum
unfolding inverse_s
lookup-inverse-all t a p sum h = lookup-all t (inverse_s a) p sum (subst (λ n. n ≤ p) (sym (length-map a substitution_inverse)) h)

-- ---- the n bytes of a number, as `to_be_bytes` has them

abbrev pub parts : ℕ → ℕ → List ℕ
parts zero x = []
parts (suc zero) x = x % 256 ∷ []
parts (suc (suc n)) x = x / 256 ^ suc n % 256 ∷ parts (suc n) x

number-high : (xs : List ℕ) (m : ℕ) → Bytes xs → number m xs / 256 ^ length xs ≡ m
unfolding number
number-high [] m h = div-one m
number-high (x ∷ xs) m h =
    ap (λ d. number (m * 256 + x) xs / d) (pow-suc 256 (length xs)) ∙ sym (div-div-eq-div-mul (number (m * 256 + x) xs) (256 ^ length xs) 256)
    ∙ ap (λ d. d / 256) (number-high xs (m * 256 + x) h.1) ∙ omega (arith, h.0)

pub parts-number : (xs : List ℕ) (m : ℕ) → Bytes xs → parts (length xs) (number m xs) ≡ xs
unfolding number
parts-number [] m h = refl
parts-number (x ∷ []) m h = ap (λ y. y ∷ []) (let e : (m * 256 + x) % 256 ≡ x = omega (arith, h.0) in e)
parts-number (x ∷ y ∷ ys) m h =
    let high : (m * 256 + x) % 256 ≡ x = omega (arith, h.0) in
    ap₂ (λ z l. z ∷ l) (ap (λ d. d % 256) (number-high (y ∷ ys) (m * 256 + x) h.1) ∙ high) (parts-number (y ∷ ys) (m * 256 + x) h.1)

pub block-parts : (a : List ℕ) → Block 16 a → parts 16 (number 0 a) ≡ a
block-parts a b = ap (λ n. parts n (number 0 a)) (sym b.long) ∙ parts-number a 0 b.bytes
