-- What a chaining register holds, by the text that it has taken in so far.
use Rattle.std.specs.Prelude.{◌≡◌, ℕ, ◌+◌, ◌*◌, ◌≤◌, List, length, take, drop}
use Rattle.block.specs.Blocks.{Block, Meaning, Lawful, Bytes}
use Rattle.modes_spec.specs.Cbc.{chained}
use Rattle.modes_spec.specs.Texts.{joined_front}
use Rattle.modes.specs.declared.chain.Chain.{Chain}

-- the chain s of a cipher that means m, begun with this register, has taken this text in and made C_q: it holds C_q, with the
-- bytes behind the first q blocks joined to it
pub record ChainAt (m : Meaning) (iv text : List ℕ) (q : ℕ) (s : Chain) : Type 0 where
  pub lawful : Lawful m
  pub begun : Block m.size iv
  pub bytes : Bytes text
  pub long : length s.register ≡ 16
  pub within : s.filled ≤ m.size
  pub placed : length text ≡ m.size * q + s.filled
  pub held : take m.size s.register ≡ joined_front (chained m iv text q) (drop (m.size * q) text)
