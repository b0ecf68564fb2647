-- What a block is, what a block cipher means, and when two ciphers mean the same.
use Rattle.std.specs.Prelude.{◌≡◌, ℕ, ◌<◌, cond, ◌⊎◌, List, length, Ok, Err, Result, ◌==◌}
use Rattle.std.specs.List.{AllByRecursion}
use Rattle.block.specs.declared.BlockFault.{BlockFault}
use Rattle.block.specs.declared.BlockFault.TheVariants.{BlockLength}

abbrev pub Bytes : List ℕ → Type 0
Bytes a = AllByRecursion (λ x. x < 256) a

-- n bytes
pub record Block (n : ℕ) (b : List ℕ) : Type 0 where
  pub long : length b ≡ n
  pub bytes : AllByRecursion (λ x. x < 256) b

-- the meaning of a block cipher: its block length n, and E and D on blocks of n bytes
pub record Meaning : Type 0 where
  pub size : ℕ
  pub forward : List ℕ → List ℕ
  pub inverse : List ℕ → List ℕ

-- n is 8 or 16, E and D make blocks of blocks, D undoes E and E undoes D
pub record Lawful (m : Meaning) : Type 0 where
  pub sized : (m.size ≡ 8) ⊎ (m.size ≡ 16)
  pub forward-block : (b : List ℕ) → Block m.size b → Block m.size (m.forward b)
  pub inverse-block : (b : List ℕ) → Block m.size b → Block m.size (m.inverse b)
  pub undone : (b : List ℕ) → Block m.size b → m.inverse (m.forward b) ≡ b
  pub redone : (b : List ℕ) → Block m.size b → m.forward (m.inverse b) ≡ b

-- the same n, and the same E and D on every block of n bytes
pub record Same (m o : Meaning) : Type 0 where
  pub sizes : m.size ≡ o.size
  pub forwards : (b : List ℕ) → Block m.size b → m.forward b ≡ o.forward b
  pub inverses : (b : List ℕ) → Block m.size b → m.inverse b ≡ o.inverse b

-- what a call on a slice of that length answers: refused exactly when it is no block length
abbrev pub block_answer : ℕ → ℕ → Result (Unit {0}) BlockFault
block_answer n len = cond (len == n) (Ok tt) (Err BlockLength)

-- what the slice holds afterwards: f of it, and unchanged if it is refused
abbrev pub block_after : ℕ → (List ℕ → List ℕ) → List ℕ → List ℕ
block_after n f b = cond (length b == n) (f b) b
