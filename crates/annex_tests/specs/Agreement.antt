-- When a step of the standard makes this output of this input. An input is the step's arguments one behind the other: words have
-- four bytes, blocks of Kuznyechik sixteen and keys thirty-two, and the number of a constant or of a round key is one byte, the last.
use Rattle.std.specs.Prelude.{◌≡◌, ℕ, ◌-◌, List, [], take, drop, Some, slice_index, slice_index_or}
use Rattle.hex_digits.specs.Hex.{hex_bytes}
use Rattle.kuznyechik_spec.specs.Kuznyechik.{add_key, feistel_round, halves, inverse_l, inverse_s, iteration_constant, lsx, round_keys, transform_l, transform_r, transform_s}
use Rattle.magma.specs.Magma.{g, last_g, round_g, round_key_at, t, word_at}
use Rattle.annex_tests.specs.Entries.{ValueIn}
use Rattle.annex_tests.specs.declared.table.Step.{Step}
use Rattle.annex_tests.specs.declared.table.Step.TheVariants.{S, InverseS, R, L, InverseL, X, Lsx, InverseLsx, IterationConstant, FeistelRound, RoundKey, T, G, MagmaRoundKey, InnerRound, LastRound}
use Rattle.annex_tests.specs.declared.table.Value.{Value}

-- the block from place i on
abbrev pub block_at : List ℕ → ℕ → List ℕ
block_at x i = take 16 (drop i x)

-- three words: the key, and the two halves of the block
abbrev pub round_made : (ℕ → ℕ × ℕ → ℕ × ℕ) → List ℕ → List ℕ → Type 0
round_made f x y = f (word_at x 0) (word_at x 4, word_at x 8) ≡ (word_at y 0, word_at y 4)

-- a round of D is X, and then the inverses of L and of S
abbrev pub Makes : Step → List ℕ → List ℕ → Type 0
Makes S x y = transform_s (block_at x 0) ≡ y
Makes InverseS x y = inverse_s (block_at x 0) ≡ y
Makes R x y = transform_r (block_at x 0) ≡ y
Makes L x y = transform_l (block_at x 0) ≡ y
Makes InverseL x y = inverse_l (block_at x 0) ≡ y
Makes X x y = add_key (block_at x 0) (block_at x 16) ≡ y
Makes Lsx x y = lsx (block_at x 0) (block_at x 16) ≡ y
Makes InverseLsx x y = inverse_s (inverse_l (add_key (block_at x 0) (block_at x 16))) ≡ y
Makes IterationConstant x y = iteration_constant (slice_index x 0) ≡ y
Makes FeistelRound x y = feistel_round (iteration_constant (slice_index x 32)) (halves (block_at x 0) (block_at x 16)) ≡ halves (block_at y 0) (block_at y 16)
Makes RoundKey x y = slice_index_or (round_keys (take 32 x)) (slice_index x 32 - 1) [] ≡ y
Makes T x y = t (word_at x 0) ≡ word_at y 0
Makes G x y = g (word_at x 0) (word_at x 4) ≡ word_at y 0
Makes MagmaRoundKey x y = round_key_at (take 32 x) (slice_index x 32 - 1) ≡ Some (word_at y 0)
Makes InnerRound x y = round_made round_g x y
Makes LastRound x y = round_made last_g x y

-- the example of a line
abbrev pub Holds : Value → Type 0
Holds v = Makes v.step (hex_bytes v.input.now) (hex_bytes v.output.now)

abbrev pub HoldsIn : List ℕ → Type 0
HoldsIn line = (v : Value) × ValueIn line v × Holds v
