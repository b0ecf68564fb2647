-- The laws of the modes: opening undoes sealing, counter blocks are apart, a text is filled in one way, sealed lengths.
use Rattle.std.specs.Prelude.{◌≡◌, ℕ, ◌+◌, ◌*◌, ◌/◌, ◌^◌, ◌<◌, List, length, take}
use Rattle.block.specs.Blocks.{Block, Meaning, Lawful, Bytes}
use Rattle.modes_spec.specs.Texts.{filled}
use Rattle.modes_spec.specs.Ctr.{counter_block, ctr}
use Rattle.modes_spec.specs.Cbc.{cbc_sealed, cbc_opened}

-- START of ctr: n/2 bytes
abbrev pub HalfBlock : ℕ → List ℕ → Type 0
HalfBlock n start = Block (n / 2) start

-- ctr undoes itself, and keeps the length
abbrev pub CtrUndoesItself : Type 0
CtrUndoesItself =
    (m : Meaning) (start text : List ℕ) → Lawful m → HalfBlock m.size start → Bytes text
    → (ctr m start (ctr m start text) ≡ text) × (length (ctr m start text) ≡ length text)

-- cbc opened is the filled text, of which the text is the front, and it has n × (L div n + 1) bytes
abbrev pub CbcOpensWhatItSealed : Type 0
CbcOpensWhatItSealed =
    (m : Meaning) (iv text : List ℕ) → Lawful m → Block m.size iv → Bytes text
    → (cbc_opened m iv (cbc_sealed m iv text) ≡ filled m.size text)
    × (take (length text) (filled m.size text) ≡ text)
    × (length (cbc_sealed m iv text) ≡ m.size * (length text / m.size + 1))

-- two texts that are filled to the same are the same
abbrev pub FilledInOneWay : Type 0
FilledInOneWay = (n : ℕ) (a b : List ℕ) → filled n a ≡ filled n b → a ≡ b

-- counter blocks below 2^(4n) are equal only for equal START and equal number
abbrev pub CounterBlocksApart : Type 0
CounterBlocksApart =
    (m : Meaning) (start other : List ℕ) (i j : ℕ) → Lawful m → HalfBlock m.size start → HalfBlock m.size other
    → i < 2 ^ (4 * m.size) → j < 2 ^ (4 * m.size)
    → counter_block m.size start i ≡ counter_block m.size other j → (start ≡ other) × (i ≡ j)
