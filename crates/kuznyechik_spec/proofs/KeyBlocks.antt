-- The round keys of a key of thirty-two bytes are blocks.
use Rattle.std.proofs.Common.{◌≡◌, ℕ, zero, suc, ◌+◌, ◌-◌, ◌/◌, ◌%◌, ◌<◌, min, Bool, true, false, not, ◌&&◌, T, eqb, ltb, List, [], ◌∷◌, length, take, drop, sym, refl, ap, ◌∙◌, subst, ap₂, arith, eqb→eq, ltb→lt, lt→ltb, length-drop, length-take}
use Rattle.std.specs.List.{AllByRecursion}
use lib.Lanes.{all_below}
use Rattle.block.specs.Blocks.{Block, Bytes}
use Rattle.kuznyechik_spec.specs.Kuznyechik.{is_block, are_blocks, bytes_of, block_of, iteration_constant, Halves, halves, feistel_round, feistel_rounds, schedule, round_keys}
use Rattle.std.proofs.ByRecursion.{All-take}
use Rattle.kuznyechik_spec.proofs.Linear.{add_key-block, transform_l-block}
use Rattle.kuznyechik_spec.proofs.Cipher.{lsx-block}

bytes_of-bytes : (n i : ℕ) (t : List ℕ) → Bytes t → Bytes (bytes_of n i t)
unfolding bytes_of
bytes_of-bytes zero i t h = h
bytes_of-bytes (suc n) i t h = bytes_of-bytes n (i / 256) (i % 256 ∷ t) (omega arith, h)

bytes_of-length : (n i : ℕ) (t : List ℕ) → length (bytes_of n i t) ≡ n + length t
unfolding bytes_of
bytes_of-length zero i t = omega arith
bytes_of-length (suc n) i t = bytes_of-length n (i / 256) (i % 256 ∷ t) ∙ omega arith

pub block_of-block : (i : ℕ) → Block 16 (block_of i)
unfolding block_of
block_of-block i = record { long = bytes_of-length 16 i []; bytes = bytes_of-bytes 16 i [] tt }

pub iteration_constant-block : (i : ℕ) → Block 16 (iteration_constant i)
unfolding iteration_constant
iteration_constant-block i = transform_l-block (block_of i) (block_of-block i)

pub record Blocks (t : Halves) : Type 0 where
  pub first : Block 16 t.left
  pub second : Block 16 t.right

feistel_round-blocks : (k : List ℕ) (t : Halves) → Block 16 k → Blocks t → Blocks (feistel_round k t)
unfolding feistel_round
feistel_round-blocks k t hk h = record { first = add_key-block (lsx-block k t.left hk h.first) h.second; second = h.first }

feistel_rounds-blocks : (n i : ℕ) (t : Halves) → Blocks t → Blocks (feistel_rounds n i t)
unfolding feistel_rounds
feistel_rounds-blocks zero i t h = h
feistel_rounds-blocks (suc n) i t h = feistel_rounds-blocks n (suc i) (feistel_round (iteration_constant i) t) (feistel_round-blocks (iteration_constant i) t (iteration_constant-block i) h)

schedule-blocks : (m i : ℕ) (t : Halves) → Blocks t → AllByRecursion (Block 16) (schedule m i t)
unfolding schedule
schedule-blocks zero i t h = tt
schedule-blocks (suc m) i t h = (h.first, (h.second, schedule-blocks m (i + 8) (feistel_rounds 8 i t) (feistel_rounds-blocks 8 i t h)))

bytes_drop : (n : ℕ) (xs : List ℕ) → Bytes xs → Bytes (drop n xs)
bytes_drop zero xs h = h
bytes_drop (suc n) [] h = tt
bytes_drop (suc n) (x ∷ xs) h = bytes_drop n xs h.1

pub round_keys-blocks : (k : List ℕ) → Block 32 k → AllByRecursion (Block 16) (round_keys k)
unfolding round_keys
round_keys-blocks k h =
    schedule-blocks 5 1 (halves (take 16 k) (drop 16 k))
    (record {
      first = record { long = length-take 16 k ∙ ap (min 16) h.long; bytes = All-take (λ x. x < 256) 16 k h.bytes };
      second = record { long = length-drop 16 k ∙ ap (λ m. m - 16) h.long; bytes = bytes_drop 16 k h.bytes };
    })

-- ---- the test that a ghost field states

and_left : (a b : Bool) → a && b ≡ true → a ≡ true
and_left true b e = refl
and_left false b e = e

and_right : (a b : Bool) → a && b ≡ true → b ≡ true
and_right true b e = e
and_right false b e = absurd (subst (λ x. T (not x)) e tt)

test_of : (b : Bool) → b ≡ true → T b
test_of b e = subst T (sym e) tt

of_test : (b : Bool) → T b → b ≡ true
of_test true t = refl
of_test false t = absurd t

below-bytes : (xs : List ℕ) → all_below 256 xs ≡ true → Bytes xs
below-bytes [] e = tt
below-bytes (x ∷ xs) e =
    (ltb→lt x 256 (test_of (ltb x 256) (and_left (ltb x 256) (all_below 256 xs) e)), below-bytes xs (and_right (ltb x 256) (all_below 256 xs) e))

bytes_below : (xs : List ℕ) → Bytes xs → all_below 256 xs ≡ true
bytes_below [] h = refl
bytes_below (x ∷ xs) h = ap₂ ◌&&◌ (of_test (ltb x 256) (lt→ltb x 256 h.0)) (bytes_below xs h.1)

pub blocks_from : (ks : List (List ℕ)) → are_blocks ks ≡ true → AllByRecursion (Block 16) ks
unfolding are_blocks is_block
blocks_from [] e = tt
blocks_from (k ∷ ks) e =
    let one : is_block k ≡ true = and_left (is_block k) (are_blocks ks) e in (
      record {
        long = eqb→eq (length k) 16 (test_of (eqb (length k) 16) (and_left (eqb (length k) 16) (all_below 256 k) one));
        bytes = below-bytes k (and_right (eqb (length k) 16) (all_below 256 k) one);
      },
      blocks_from ks (and_right (is_block k) (are_blocks ks) e),
    )

pub blocks_to : (ks : List (List ℕ)) → AllByRecursion (Block 16) ks → are_blocks ks ≡ true
unfolding are_blocks is_block
blocks_to [] h = refl
blocks_to (k ∷ ks) h =
    ap₂ ◌&&◌ (ap₂ ◌&&◌ (ap (λ n. eqb n 16) h.0.long) (bytes_below k h.0.bytes)) (blocks_to ks h.1)
