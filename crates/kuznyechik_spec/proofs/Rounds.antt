-- E and D as chains over round keys.
use Rattle.std.proofs.Common.{◌≡◌, ℕ, zero, suc, ◌/◌, ◌%◌, ◌<◌, List, [], ◌∷◌, ◌++◌, reverse, length, get_or, take, drop, sym, refl, ap, ◌∙◌, ap₂, arith, drop-cons}
use mathlib.Core.List.{reverse-cons}
use Rattle.std.proofs.lemmas.List.{drop_all, reverse-append}
use Rattle.std.specs.List.{fold}
use Rattle.std.proofs.lemmas.List.Sums.{fold_push}
use Rattle.kuznyechik_spec.specs.Kuznyechik.{lsx, add_key, inverse_s, inverse_l, encipher, decipher, bytes_of, block_of}

-- a round of E, and one of D
abbrev pub round : List ℕ → List ℕ → List ℕ
round a k = lsx k a

abbrev pub inverse_round : List ℕ → List ℕ → List ℕ
inverse_round a k = add_key k (inverse_s (inverse_l a))

-- E: a round with each key but the last
pub encipher-folded : (n : ℕ) (ks : List (List ℕ)) (a : List ℕ) → length ks ≡ suc n → add_key (get_or ks n []) (fold round a (take n ks)) ≡ encipher ks a
unfolding encipher
encipher-folded n [] a h = absurd (omega arith)
encipher-folded zero (k ∷ []) a h = refl
encipher-folded (suc n) (k ∷ []) a h = absurd (omega arith)
encipher-folded zero (k ∷ m ∷ ks) a h = absurd (omega arith)
encipher-folded (suc n) (k ∷ m ∷ ks) a h = encipher-folded n (m ∷ ks) (lsx k a) (omega arith)

decipher-joined : (ks : List (List ℕ)) (l a : List ℕ) → fold inverse_round (add_key l a) (reverse ks) ≡ decipher (ks ++ (l ∷ [])) a
unfolding decipher
decipher-joined [] l a = refl
decipher-joined (k ∷ []) l a = refl
decipher-joined (k ∷ m ∷ ks) l a =
    ap (fold inverse_round (add_key l a)) (reverse-cons k (m ∷ ks))
    ∙ fold_push inverse_round (add_key l a) (reverse (m ∷ ks)) k
    ∙ ap (λ b. inverse_round b k) (decipher-joined (m ∷ ks) l a)

split_last : {A : Type 0} (d : A) (n : ℕ) (ks : List A) → length ks ≡ suc n → ks ≡ take n ks ++ (get_or ks n d ∷ [])
split_last d n [] h = absurd (omega arith)
split_last d zero (k ∷ []) h = refl
split_last d zero (k ∷ m ∷ ks) h = absurd (omega arith)
split_last d (suc n) (k ∷ ks) h = ap (λ l. k ∷ l) (split_last d n ks (omega arith))

-- all but the last, from the last on
pub others_reversed : {A : Type 0} (d : A) (n : ℕ) (ks : List A) → length ks ≡ suc n → drop 1 (reverse ks) ≡ reverse (take n ks)
others_reversed d n ks h = ap (λ l. drop 1 (reverse l)) (split_last d n ks h) ∙ ap (drop 1) (reverse-append (take n ks) (get_or ks n d ∷ []))

-- D: the last key, and a round with each of the others, from the last on
pub decipher-folded : (n : ℕ) (ks : List (List ℕ)) (a : List ℕ) → length ks ≡ suc n → fold inverse_round (add_key (get_or ks n []) a) (drop 1 (reverse ks)) ≡ decipher ks a
decipher-folded n ks a h =
    let last = get_or ks n [] in
    ap (fold inverse_round (add_key last a)) (others_reversed [] n ks h)
    ∙ decipher-joined (take n ks) last a ∙ ap (λ l. decipher l a) (sym (split_last [] n ks h))

-- D key by key

-- the keys from i on, of which there is one more
two-keys : (ks : List (List ℕ)) (i : ℕ) → suc i < length ks → drop i ks ≡ get_or ks i [] ∷ get_or ks (suc i) [] ∷ drop (suc (suc i)) ks
two-keys ks i h = drop-cons ks i [] (omega arith) ∙ ap (λ l. get_or ks i [] ∷ l) (drop-cons ks (suc i) [] h)

last-key : (ks : List (List ℕ)) (i : ℕ) → length ks ≡ suc i → drop i ks ≡ get_or ks i [] ∷ []
last-key ks i h = drop-cons ks i [] (omega arith) ∙ ap (λ l. get_or ks i [] ∷ l) (drop_all (suc i) ks (omega arith))

pub decipher-last : (ks : List (List ℕ)) (i : ℕ) (a : List ℕ) → length ks ≡ suc i → add_key (get_or ks i []) a ≡ decipher (drop i ks) a
unfolding decipher
decipher-last ks i a h = sym (ap (λ l. decipher l a) (last-key ks i h))

pub decipher-more : (ks : List (List ℕ)) (i : ℕ) (a : List ℕ) → suc i < length ks
    → add_key (get_or ks i []) (inverse_s (inverse_l (decipher (drop (suc i) ks) a))) ≡ decipher (drop i ks) a
unfolding decipher
decipher-more ks i a h =
    ap (λ l. add_key (get_or ks i []) (inverse_s (inverse_l (decipher l a)))) (drop-cons ks (suc i) [] h) ∙ sym (ap (λ l. decipher l a) (two-keys ks i h))

-- a number below 256, as a block
pub block_of-small : (i : ℕ) → i < 256 → block_of i ≡ (0 ∷ 0 ∷ 0 ∷ 0 ∷ 0 ∷ 0 ∷ 0 ∷ 0 ∷ 0 ∷ 0 ∷ 0 ∷ 0 ∷ 0 ∷ 0 ∷ 0 ∷ i ∷ [])
unfolding block_of bytes_of
block_of-small i h =
    let z : i / 256 ≡ 0 = omega arith in
    let m : i % 256 ≡ i = omega arith in
    ap₂ (λ x y. bytes_of 15 x (y ∷ [])) z m
