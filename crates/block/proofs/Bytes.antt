-- Lists of bytes, exclusive or of them, and blocks.
use Rattle.std.proofs.Common.{◌≡◌, ℕ, zero, suc, ◌<◌, min, List, [], ◌∷◌, ◌++◌, length, get_or, take, drop, sym, refl, ap, ◌∙◌, ap₂, arith}
use lib.Bits.{bit_xor, xor_lt, xor_assoc, xor_self, xor_comm}
use lib.Lanes.{zip2}
use Rattle.std.proofs.ByRecursion.{All-from_get_or}
use Rattle.block.specs.Blocks.{Block, Bytes}

-- an array of n bytes is a block of n bytes
pub block-from : (n : ℕ) (a : List ℕ) → length a ≡ n → ((i : ℕ) → get_or a i 0 < 256) → Block n a
block-from n a long fits = record { long = long; bytes = All-from_get_or (λ x. x < 256) a 0 (λ i h. fits i) }

pub bytes-xor : (xs ys : List ℕ) → Bytes xs → Bytes ys → Bytes (zip2 bit_xor xs ys)
bytes-xor [] ys h k = tt
bytes-xor (x ∷ xs) [] h k = tt
bytes-xor (x ∷ xs) (y ∷ ys) h k = (xor_lt 8 x y h.0 k.0, bytes-xor xs ys h.1 k.1)

-- exclusive or cuts the longer list
pub length-xor : (xs ys : List ℕ) → length (zip2 bit_xor xs ys) ≡ min (length xs) (length ys)
length-xor [] ys = omega arith
length-xor (x ∷ xs) [] = omega arith
length-xor (x ∷ xs) (y ∷ ys) = omega (arith, length-xor xs ys)

pub take-xor : (n : ℕ) (xs ys : List ℕ) → take n (zip2 bit_xor xs ys) ≡ zip2 bit_xor (take n xs) (take n ys)
take-xor zero xs ys = refl
take-xor (suc n) [] ys = refl
take-xor (suc n) (x ∷ xs) [] = refl
take-xor (suc n) (x ∷ xs) (y ∷ ys) = ap (λ l. bit_xor x y ∷ l) (take-xor n xs ys)

pub drop-xor : (n : ℕ) (xs ys : List ℕ) → drop n (zip2 bit_xor xs ys) ≡ zip2 bit_xor (drop n xs) (drop n ys)
drop-xor zero xs ys = refl
drop-xor (suc n) [] ys = refl
drop-xor (suc n) (x ∷ xs) [] = sym (xor-nil (drop n xs))
  where
    xor-nil : (zs : List ℕ) → zip2 bit_xor zs [] ≡ []
    xor-nil [] = refl
    xor-nil (z ∷ zs) = refl
drop-xor (suc n) (x ∷ xs) (y ∷ ys) = drop-xor n xs ys

pub append-xor : (xs ys us vs : List ℕ) → length xs ≡ length ys → zip2 bit_xor (xs ++ us) (ys ++ vs) ≡ zip2 bit_xor xs ys ++ zip2 bit_xor us vs
append-xor [] [] us vs e = refl
append-xor [] (y ∷ ys) us vs e = absurd (omega arith)
append-xor (x ∷ xs) [] us vs e = absurd (omega arith)
append-xor (x ∷ xs) (y ∷ ys) us vs e = ap (λ l. bit_xor x y ∷ l) (append-xor xs ys us vs (omega arith))

pub xor-twice : (a b : ℕ) → bit_xor a (bit_xor a b) ≡ b
xor-twice a b = sym (xor_assoc a a b) ∙ ap (λ x. bit_xor x b) (xor_self a)

pub xor-self-list : (ks xs : List ℕ) → length ks ≡ length xs → zip2 bit_xor ks (zip2 bit_xor ks xs) ≡ xs
xor-self-list [] [] e = refl
xor-self-list [] (x ∷ xs) e = absurd (omega arith)
xor-self-list (k ∷ ks) [] e = absurd (omega arith)
xor-self-list (k ∷ ks) (x ∷ xs) e = ap₂ (λ y l. y ∷ l) (xor-twice k x) (xor-self-list ks xs (omega arith))

pub xor-list-comm : (xs ys : List ℕ) → zip2 bit_xor xs ys ≡ zip2 bit_xor ys xs
xor-list-comm [] [] = refl
xor-list-comm [] (y ∷ ys) = refl
xor-list-comm (x ∷ xs) [] = refl
xor-list-comm (x ∷ xs) (y ∷ ys) = ap₂ (λ a l. a ∷ l) (xor_comm x y) (xor-list-comm xs ys)
