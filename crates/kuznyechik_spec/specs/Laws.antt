-- The laws of Kuznyechik that the functions of this crate carry.
use Rattle.std.specs.Prelude.{◌≡◌, ℕ, List}
use Rattle.block.specs.Blocks.{Block, Lawful}
use Rattle.kuznyechik_spec.specs.Kuznyechik.{add_key, inverse_l, inverse_r, inverse_s, kuznyechik, lsx, transform_l, transform_r, transform_s}
use Rattle.kuznyechik_spec.specs.Tables.{Holds, inverse_entry, lookup_sum, number, round_entry}

-- with every key of 32 bytes, E and D make blocks of blocks, and undo each other
abbrev pub LawfulWithEveryKey : Type 0
LawfulWithEveryKey = (key : List ℕ) → Block 32 key → Lawful (kuznyechik key)

-- f and g undo each other on blocks
pub record Inverse (f g : List ℕ → List ℕ) : Type 0 where
  pub undone : (a : List ℕ) → Block 16 a → g (f a) ≡ a
  pub redone : (a : List ℕ) → Block 16 a → f (g a) ≡ a

-- what the standard calls inverse is inverse
pub record InverseTransformations : Type 0 where
  pub of_s : Inverse transform_s inverse_s
  pub of_r : Inverse transform_r inverse_r
  pub of_l : Inverse transform_l inverse_l

-- the sum of the entries for the bytes of X[k](a) is LSX[k](a), and for those of a it is the inverse of L
pub record RoundsByTables : Type 0 where
  pub round : (t : List (List ℕ)) → Holds round_entry t → (k a : List ℕ) → Block 16 k → Block 16 a
      → lookup_sum t (add_key k a) ≡ number 0 (lsx k a)
  pub inverse : (t : List (List ℕ)) → Holds inverse_entry t → (a : List ℕ) → Block 16 a → lookup_sum t a ≡ number 0 (inverse_l a)
