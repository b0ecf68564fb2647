-- What cbc that is opened in pieces holds, by the cipher text that it has taken in so far.
use Rattle.std.specs.Prelude.{◌≡◌, ℕ, ◌+◌, ◌-◌, ◌*◌, ◌/◌, ◌%◌, ◌≤◌, min, Bool, cond, ◌&&◌, List, [], ◌++◌, length, take, drop, Ok, Err, Result, ◌==◌, nat_lt, slice_index}
use Rattle.std.specs.List.{list_all}
use Rattle.block.specs.Blocks.{Block, Meaning, Lawful, Same, Bytes}
use Rattle.modes_spec.specs.Cbc.{register_at, opened_block, opened_blocks}
use Rattle.modes_spec.specs.Texts.{zeros}
use Rattle.modes.specs.declared.cbc.CbcFault.{CbcFault}
use Rattle.modes.specs.declared.cbc.CbcFault.TheVariants.{ShortOutput, TooLong, Incomplete, Filling}
use Rattle.modes.specs.declared.opening.CbcOpener.{CbcOpener}

-- the opener s of a cipher that means m, begun with this register, has taken this cipher text in and opened its first q blocks;
-- it opens so many blocks before the last
pub record OpeningAt (m : Meaning) (iv text : List ℕ) (before q : ℕ) (s : CbcOpener) : Type 0 where
  pub lawful : Lawful m
  pub begun : Block m.size iv
  pub bytes : Bytes text
  pub long : length s.block ≡ 16
  pub counted : q + s.left ≡ before
  pub within : s.filled ≤ m.size
  pub placed : length text ≡ m.size * q + s.filled
  pub register : take m.size s.previous ≡ register_at m.size iv text q
  pub current : take s.filled s.block ≡ drop (m.size * q) text

-- how many blocks are opened once this cipher text has come: those that are whole, but not the last
abbrev pub opened_count : ℕ → ℕ → List ℕ → ℕ
opened_count n before text = min (length text / n) before

abbrev pub CbcOpenAt : Meaning → List ℕ → ℕ → List ℕ → CbcOpener → Type 0
CbcOpenAt m iv before text s = OpeningAt m iv text before (opened_count m.size before text) s

-- the plain text of the blocks that are opened
abbrev pub opened_so_far : Meaning → List ℕ → ℕ → List ℕ → List ℕ
opened_so_far m iv before text = opened_blocks m iv text (opened_count m.size before text)

-- a new one has taken nothing in, whatever the cipher
abbrev pub BegunOpening : List ℕ → ℕ → CbcOpener → Type 0
BegunOpening start before s = (m : Meaning) → Lawful m → CbcOpenAt m (take m.size start) before [] s

-- where s had taken a cipher text in, s' has taken the piece in behind it, and ys is the plain text of the blocks that are opened
abbrev pub OpenedCbc : Meaning → CbcOpener → List ℕ → CbcOpener → List ℕ → Type 0
OpenedCbc cipher s piece s' ys =
    (m : Meaning) (iv text : List ℕ) (before : ℕ) → Same m cipher → CbcOpenAt m iv before text s
    → CbcOpenAt m iv before (text ++ piece) s' × (opened_so_far m iv before (text ++ piece) ≡ opened_so_far m iv before text ++ ys)

-- how many bytes a piece opens, behind `filled` bytes of the current block, with so many blocks left before the last
abbrev pub opened_next : ℕ → ℕ → ℕ → ℕ → ℕ
opened_next n filled left len = n * min ((filled + len) / n) left

-- what is filled of the current block: less than n bytes before the last block, at most n of the last
abbrev pub settled_fill : ℕ → ℕ → ℕ → ℕ
settled_fill n left filled = cond (left == 0) (min filled n) (filled % n)

abbrev pub take_answer : ℕ → ℕ → ℕ → ℕ → ℕ → Result ℕ CbcFault
take_answer n filled left len room =
    cond (nat_lt (n * (left + 1)) (filled + len)) (Err TooLong)
    (cond (nat_lt room (opened_next n filled left len)) (Err ShortOutput) (Ok (opened_next n filled left len)))

-- what a piece that is taken leaves: refused, everything as it was; else it is opened, and the rest of the output is as it was
abbrev pub TakenCbc : Meaning → CbcOpener → List ℕ → List ℕ → Result ℕ CbcFault → CbcOpener → List ℕ → Type 0
TakenCbc cipher s piece out (Ok k) s' out' = OpenedCbc cipher s piece s' (take k out') × (drop k out' ≡ drop k out)
TakenCbc cipher s piece out (Err f) s' out' = (s' ≡ s) × (out' ≡ out)

abbrev pub all_zeros : List ℕ → Bool
all_zeros = list_all (λ x. x == 0)

-- the last block of n bytes is `rest` bytes of text and their filling
abbrev pub fills : ℕ → ℕ → List ℕ → Bool
fills n rest block = nat_lt rest n && slice_index block rest == 128 && all_zeros (drop (rest + 1) block)

-- whether the last block is whole, and then its plain text, if it is filled as it should be
abbrev pub last_answer : Bool → ℕ → ℕ → List ℕ → Result (List ℕ) CbcFault
last_answer whole n rest block = cond whole (cond (fills n rest block) (Ok (block ++ zeros (16 - n))) (Err Filling)) (Err Incomplete)

-- where s has taken a whole cipher text in, the answer is that of its last block
abbrev pub LastOpened : Meaning → CbcOpener → ℕ → Result (List ℕ) CbcFault → Type 0
LastOpened cipher s rest r =
    (m : Meaning) (iv text : List ℕ) (before : ℕ) → Same m cipher → CbcOpenAt m iv before text s
    → r ≡ last_answer (length text == m.size * (before + 1)) m.size rest (opened_block m iv text before)
