-- S and its inverse, and E and D with any list of round keys that are blocks: each undoes the other.
use Rattle.std.proofs.Common.{◌≡◌, ℕ, suc, ◌<◌, eqb, ltb, List, [], ◌∷◌, map, length, refl, ap, ◌∙◌, ap₂, eqb→eq, ltb→lt}
use Rattle.std.specs.List.{AllByRecursion}
use Rattle.block.specs.Blocks.{Block, Bytes}
use Rattle.kuznyechik_spec.specs.Kuznyechik.{substitution, substitutions, substitution_inverse, place_of, transform_s, inverse_s, add_key, transform_l, inverse_l, lsx, encipher, decipher}
use Rattle.kuznyechik_spec.proofs.Computed.{below}
use Rattle.kuznyechik_spec.proofs.Linear.{add_key-block, add_key-twice, transform_l-block, inverse_l-block, inverse_l-transform_l, transform_l-inverse_l}

-- ---- π and its inverse, at each of the 256 values

pub substitution-lt : (a : ℕ) → a < 256 → substitution a < 256
unfolding substitution substitutions
substitution-lt a h = ltb→lt (substitution a) 256 (below (λ x. ltb (substitution x) 256) 256 tt a h)

pub substitution_inverse-lt : (a : ℕ) → a < 256 → substitution_inverse a < 256
unfolding substitution_inverse place_of substitutions
substitution_inverse-lt a h = ltb→lt (substitution_inverse a) 256 (below (λ x. ltb (substitution_inverse x) 256) 256 tt a h)

pub substitution_inverse-substitution : (a : ℕ) → a < 256 → substitution_inverse (substitution a) ≡ a
unfolding substitution substitution_inverse place_of substitutions
substitution_inverse-substitution a h = eqb→eq (substitution_inverse (substitution a)) a (below (λ x. eqb (substitution_inverse (substitution x)) x) 256 tt a h)

pub substitution-substitution_inverse : (a : ℕ) → a < 256 → substitution (substitution_inverse a) ≡ a
unfolding substitution substitution_inverse place_of substitutions
substitution-substitution_inverse a h = eqb→eq (substitution (substitution_inverse a)) a (below (λ x. eqb (substitution (substitution_inverse x)) x) 256 tt a h)

-- ---- S and its inverse

bytes-map : (f : ℕ → ℕ) → ((a : ℕ) → a < 256 → f a < 256) → (xs : List ℕ) → Bytes xs → Bytes (map f xs)
bytes-map f keep [] h = tt
bytes-map f keep (x ∷ xs) h = (keep x h.0, bytes-map f keep xs h.1)

length-map : (f : ℕ → ℕ) (xs : List ℕ) → length (map f xs) ≡ length xs
length-map f [] = refl
length-map f (x ∷ xs) = ap suc (length-map f xs)

map_back : (f g : ℕ → ℕ) → ((a : ℕ) → a < 256 → g (f a) ≡ a) → (xs : List ℕ) → Bytes xs → map g (map f xs) ≡ xs
map_back f g undo [] h = refl
map_back f g undo (x ∷ xs) h = ap₂ (λ y l. y ∷ l) (undo x h.0) (map_back f g undo xs h.1)

pub transform_s-block : (a : List ℕ) → Block 16 a → Block 16 (transform_s a)
unfolding transform_s
transform_s-block a h = record { long = length-map substitution a ∙ h.long; bytes = bytes-map substitution substitution-lt a h.bytes }

pub inverse_s-block : (a : List ℕ) → Block 16 a → Block 16 (inverse_s a)
unfolding inverse_s
inverse_s-block a h = record { long = length-map substitution_inverse a ∙ h.long; bytes = bytes-map substitution_inverse substitution_inverse-lt a h.bytes }

pub inverse_s-transform_s : (a : List ℕ) → Block 16 a → inverse_s (transform_s a) ≡ a
unfolding transform_s inverse_s
inverse_s-transform_s a h = map_back substitution substitution_inverse substitution_inverse-substitution a h.bytes

pub transform_s-inverse_s : (a : List ℕ) → Block 16 a → transform_s (inverse_s a) ≡ a
unfolding transform_s inverse_s
transform_s-inverse_s a h = map_back substitution_inverse substitution substitution-substitution_inverse a h.bytes

-- ---- E and D

pub lsx-block : (k a : List ℕ) → Block 16 k → Block 16 a → Block 16 (lsx k a)
unfolding lsx
lsx-block k a hk ha = transform_l-block (transform_s (add_key k a)) (transform_s-block (add_key k a) (add_key-block hk ha))

lsx-undone : (k a : List ℕ) → Block 16 k → Block 16 a → add_key k (inverse_s (inverse_l (lsx k a))) ≡ a
unfolding lsx
lsx-undone k a hk ha =
    let x : Block 16 (add_key k a) = add_key-block hk ha in
    ap (λ z. add_key k (inverse_s z)) (inverse_l-transform_l (transform_s (add_key k a)) (transform_s-block (add_key k a) x))
    ∙ ap (add_key k) (inverse_s-transform_s (add_key k a) x) ∙ add_key-twice k a hk ha

lsx-redone : (k a : List ℕ) → Block 16 k → Block 16 a → lsx k (add_key k (inverse_s (inverse_l a))) ≡ a
unfolding lsx
lsx-redone k a hk ha =
    let b : Block 16 (inverse_l a) = inverse_l-block a ha in
    ap (λ z. transform_l (transform_s z)) (add_key-twice k (inverse_s (inverse_l a)) hk (inverse_s-block (inverse_l a) b))
    ∙ ap transform_l (transform_s-inverse_s (inverse_l a) b) ∙ transform_l-inverse_l a ha

pub encipher-block : (ks : List (List ℕ)) (a : List ℕ) → AllByRecursion (Block 16) ks → Block 16 a → Block 16 (encipher ks a)
unfolding encipher
encipher-block [] a hk ha = ha
encipher-block (k ∷ []) a hk ha = add_key-block hk.0 ha
encipher-block (k ∷ k2 ∷ ks) a hk ha = encipher-block (k2 ∷ ks) (lsx k a) hk.1 (lsx-block k a hk.0 ha)

pub decipher-block : (ks : List (List ℕ)) (a : List ℕ) → AllByRecursion (Block 16) ks → Block 16 a → Block 16 (decipher ks a)
unfolding decipher
decipher-block [] a hk ha = ha
decipher-block (k ∷ []) a hk ha = add_key-block hk.0 ha
decipher-block (k ∷ k2 ∷ ks) a hk ha =
    let d : Block 16 (decipher (k2 ∷ ks) a) = decipher-block (k2 ∷ ks) a hk.1 ha in
    add_key-block hk.0 (inverse_s-block (inverse_l (decipher (k2 ∷ ks) a)) (inverse_l-block (decipher (k2 ∷ ks) a) d))

pub decipher-encipher : (ks : List (List ℕ)) (a : List ℕ) → AllByRecursion (Block 16) ks → Block 16 a → decipher ks (encipher ks a) ≡ a
unfolding encipher decipher
decipher-encipher [] a hk ha = refl
decipher-encipher (k ∷ []) a hk ha = add_key-twice k a hk.0 ha
decipher-encipher (k ∷ k2 ∷ ks) a hk ha =
    ap (λ z. add_key k (inverse_s (inverse_l z))) (decipher-encipher (k2 ∷ ks) (lsx k a) hk.1 (lsx-block k a hk.0 ha))
    ∙ lsx-undone k a hk.0 ha

pub encipher-decipher : (ks : List (List ℕ)) (a : List ℕ) → AllByRecursion (Block 16) ks → Block 16 a → encipher ks (decipher ks a) ≡ a
unfolding encipher decipher
encipher-decipher [] a hk ha = refl
encipher-decipher (k ∷ []) a hk ha = add_key-twice k a hk.0 ha
encipher-decipher (k ∷ k2 ∷ ks) a hk ha =
    ap (encipher (k2 ∷ ks)) (lsx-redone k (decipher (k2 ∷ ks) a) hk.0 (decipher-block (k2 ∷ ks) a hk.1 ha))
    ∙ encipher-decipher (k2 ∷ ks) a hk.1 ha
