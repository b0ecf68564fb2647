-- A block as a number, and the number's bytes as a block: a sum of numbers is the sum of the blocks.
use Rattle.std.proofs.Common.{◌≡◌, ℕ, zero, suc, ◌+◌, ◌*◌, ◌/◌, ◌%◌, ◌^◌, ◌<◌, List, [], ◌∷◌, ◌++◌, map, length, get_or, take, drop, sym, refl, ap, ◌∙◌, ap₂, append_assoc, mul_comm, pow-suc, arith, drop-cons}
use Rattle.std.specs.List.{AllByRecursion}
use native.Mathlib.Nat.{div-div-eq-div-mul}
use lib.Bits.{bit_xor, xor_comm, xor_mod, xor_shr}
use lib.Lanes.{zip2}
use mathlib.Core.List.{reverse, reverse-cons, map-append}
use Rattle.std.specs.List.{fold}
use Rattle.std.proofs.lemmas.List.{take-map, drop-map}
use Rattle.std.proofs.lemmas.List.Folds.{fold-map}
use Rattle.std.proofs.lemmas.List.{drop_all}
use Rattle.block.specs.Blocks.{Block}
use Rattle.kuznyechik_spec.specs.Kuznyechik.{add_key, block_of, bytes_of, decipher, encipher, lsx, inverse_l, inverse_s, transform_l, transform_s}
use Rattle.kuznyechik_spec.specs.Tables.{number, Holds, lookup_sum, round_entry, inverse_entry}
use Rattle.kuznyechik_spec.proofs.Cipher.{transform_s-block}
use Rattle.kuznyechik_spec.proofs.KeyBlocks.{block_of-block}
use Rattle.kuznyechik_spec.proofs.Linear.{add_key-block, inverse_l-block, transform_l-block}
use Rattle.kuznyechik_spec.proofs.Rounds.{round, inverse_round, encipher-folded, decipher-folded}
use Rattle.kuznyechik_spec.proofs.Lookup.{block-parts, lookup-inverse, lookup-round, parts}

-- ---- the bytes of a number, from the last and from the first

parts_last : (n x : ℕ) → parts (suc n) x ≡ parts n (x / 256) ++ (x % 256 ∷ [])
parts_last zero x = refl
parts_last (suc zero) x = refl
parts_last (suc (suc n)) x =
    ap₂ (λ d l. d % 256 ∷ l)
    (ap (λ d. x / d) (pow-suc 256 (suc n) ∙ mul_comm (256 ^ suc n) 256) ∙ sym (div-div-eq-div-mul x 256 (256 ^ suc n)))
    (parts_last (suc n) x)

bytes_of-parts : (n x : ℕ) (t : List ℕ) → bytes_of n x t ≡ parts n x ++ t
unfolding bytes_of
bytes_of-parts zero x t = refl
bytes_of-parts (suc n) x t =
    bytes_of-parts n (x / 256) (x % 256 ∷ t) ∙ sym (append_assoc (parts n (x / 256)) (x % 256 ∷ []) t)
    ∙ ap (λ l. l ++ t) (sym (parts_last n x))

-- what `to_be_bytes` gives
pub parts-block_of : (x : ℕ) → parts 16 x ≡ block_of x
unfolding block_of
parts-block_of x = sym (bytes_of-parts 16 x [])

pub block_of-number : (a : List ℕ) → Block 16 a → block_of (number 0 a) ≡ a
block_of-number a h = sym (parts-block_of (number 0 a)) ∙ block-parts a h

-- ---- the number of a block, as `from_be_bytes` gives it

-- the n elements from place i on
abbrev elements : ℕ → ℕ → List ℕ → List ℕ
elements zero i xs = []
elements (suc n) i xs = get_or xs i 0 ∷ elements n (suc i) xs

elements-all : (xs : List ℕ) (n i : ℕ) → length xs ≡ i + n → drop i xs ≡ elements n i xs
elements-all xs zero i e = drop_all i xs (omega arith)
elements-all xs (suc n) i e =
    drop-cons xs i 0 (omega arith) ∙ ap (λ l. get_or xs i 0 ∷ l) (elements-all xs n (suc i) (omega arith))

pub weighted-number : (a : List ℕ) → length a ≡ 16
    → get_or a 0 0 * 1329227995784915872903807060280344576
    + get_or a 1 0 * 5192296858534827628530496329220096
    + get_or a 2 0 * 20282409603651670423947251286016
    + get_or a 3 0 * 79228162514264337593543950336
    + get_or a 4 0 * 309485009821345068724781056
    + get_or a 5 0 * 1208925819614629174706176
    + get_or a 6 0 * 4722366482869645213696
    + get_or a 7 0 * 18446744073709551616
    + get_or a 8 0 * 72057594037927936
    + get_or a 9 0 * 281474976710656
    + get_or a 10 0 * 1099511627776
    + get_or a 11 0 * 4294967296
    + get_or a 12 0 * 16777216
    + get_or a 13 0 * 65536
    + get_or a 14 0 * 256
    + get_or a 15 0
    ≡ number 0 a
unfolding number
weighted-number a h =
    let e : number 0 a ≡ number 0 (elements 16 0 a) = ap (number 0) (elements-all a 16 0 h) in
    (omega arith) ∙ sym e

-- ---- sums

bytes_of-xor : (n x y : ℕ) (s t : List ℕ) → bytes_of n (bit_xor x y) (zip2 bit_xor s t) ≡ zip2 bit_xor (bytes_of n x s) (bytes_of n y t)
unfolding bytes_of
bytes_of-xor zero x y s t = refl
bytes_of-xor (suc n) x y s t =
    ap₂ (λ h l. bytes_of n h (l ∷ zip2 bit_xor s t)) (xor_shr x y 8) (xor_mod x y 8)
    ∙ bytes_of-xor n (x / 256) (y / 256) (x % 256 ∷ s) (y % 256 ∷ t)

pub block_of-xor : (x y : ℕ) → block_of (bit_xor x y) ≡ add_key (block_of y) (block_of x)
unfolding block_of add_key
block_of-xor x y = ap (λ z. bytes_of 16 z []) (xor_comm x y) ∙ bytes_of-xor 16 y x [] []

-- ---- the rounds by the tables

pub round-word : (t : List (List ℕ)) → Holds round_entry t → (state key sum : ℕ) → sum ≡ lookup_sum t (block_of (bit_xor state key))
    → block_of sum ≡ lsx (block_of key) (block_of state)
unfolding lsx
round-word t h state key sum e =
    let b : Block 16 (add_key (block_of key) (block_of state)) = add_key-block (block_of-block key) (block_of-block state) in
    ap block_of (e ∙ ap (lookup_sum t) (block_of-xor state key) ∙ lookup-round t h (add_key (block_of key) (block_of state)) b)
    ∙ block_of-number (transform_l (transform_s (add_key (block_of key) (block_of state))))
    (transform_l-block (transform_s (add_key (block_of key) (block_of state))) (transform_s-block (add_key (block_of key) (block_of state)) b))

pub inverse-word : (t : List (List ℕ)) → Holds inverse_entry t → (a : List ℕ) → Block 16 a → (sum : ℕ) → sum ≡ lookup_sum t a
    → block_of sum ≡ inverse_l a
inverse-word t h a b sum e = ap block_of (e ∙ lookup-inverse t h a b) ∙ block_of-number (inverse_l a) (inverse_l-block a b)

-- ---- rows of numbers

pub length-blocks : (ks : List ℕ) → length (map block_of ks) ≡ length ks
length-blocks [] = refl
length-blocks (k ∷ ks) = ap suc (length-blocks ks)

pub get_or-blocks : (ks : List ℕ) (i : ℕ) → i < length ks → get_or (map block_of ks) i [] ≡ block_of (get_or ks i 0)
get_or-blocks [] i h = absurd (omega arith)
get_or-blocks (k ∷ ks) zero h = refl
get_or-blocks (k ∷ ks) (suc i) h = get_or-blocks ks i (omega arith)

pub are-blocks : (ks : List ℕ) → AllByRecursion (Block 16) (map block_of ks)
are-blocks [] = tt
are-blocks (k ∷ ks) = (block_of-block k, are-blocks ks)

pub blocks-numbers : (rows : List (List ℕ)) → AllByRecursion (Block 16) rows → map block_of (map (number 0) rows) ≡ rows
blocks-numbers [] h = refl
blocks-numbers (r ∷ rs) h = ap₂ (λ y l. y ∷ l) (block_of-number r h.0) (blocks-numbers rs h.1)

reverse-blocks : (ks : List ℕ) → reverse (map block_of ks) ≡ map block_of (reverse ks)
reverse-blocks [] = refl
reverse-blocks (k ∷ ks) =
    reverse-cons (block_of k) (map block_of ks) ∙ ap (λ l. l ++ (block_of k ∷ [])) (reverse-blocks ks)
    ∙ sym (map-append block_of (reverse ks) (k ∷ [])) ∙ ap (map block_of) (sym (reverse-cons k ks))

-- E by round keys as numbers: a round with each but the last
pub encipher-numbers : (n : ℕ) (ks : List ℕ) (a x : List ℕ) → length ks ≡ suc n → x ≡ fold (λ b k. lsx (block_of k) b) a (take n ks)
    → add_key (block_of (get_or ks n 0)) x ≡ encipher (map block_of ks) a
encipher-numbers n ks a x h e =
    ap₂ add_key (sym (get_or-blocks ks n (omega arith)))
    (e ∙ sym (fold-map round block_of a (take n ks)) ∙ ap (fold round a) (sym (take-map block_of n ks)))
    ∙ encipher-folded n (map block_of ks) a (length-blocks ks ∙ h)

-- D likewise
pub decipher-numbers : (n : ℕ) (ks : List ℕ) (a x : List ℕ) → length ks ≡ suc n
    → x ≡ fold (λ b k. add_key (block_of k) (inverse_s (inverse_l b))) (add_key (block_of (get_or ks n 0)) a) (drop 1 (reverse ks))
    → x ≡ decipher (map block_of ks) a
decipher-numbers n ks a x h e =
    let start = add_key (block_of (get_or ks n 0)) a in
    e ∙ sym (fold-map inverse_round block_of start (drop 1 (reverse ks)))
    ∙ ap (fold inverse_round start) (sym (drop-map block_of 1 (reverse ks)) ∙ ap (drop 1) (sym (reverse-blocks ks)))
    ∙ ap (λ k. fold inverse_round (add_key k a) (drop 1 (reverse (map block_of ks)))) (sym (get_or-blocks ks n (omega arith)))
    ∙ decipher-folded n (map block_of ks) a (length-blocks ks ∙ h)
