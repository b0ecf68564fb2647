-- What a body that is being sealed holds, by the bytes that were fed to it.
use Rattle.std.specs.Prelude.{◌≡◌, ℕ, ◌+◌, ◌/◌, ◌%◌, cond, List, [], ◌++◌, take, drop, Ok, Err, Result, nat_lt}
use Rattle.block.specs.Blocks.{Meaning, Lawful, Same}
use Rattle.modes_spec.specs.Mac.{mac}
use Rattle.modes.specs.CtrState.{CtrAt, JoinedCtr}
use Rattle.modes.specs.declared.ctr.CtrStream.{CtrStream}
use Rattle.modes.specs.CbcState.{CbcAt, sealed_next}
use Rattle.modes.specs.MacState.{MacAt}
use Rattle.sheet_format.specs.Sizes.{start_digits}
use Rattle.sheet_format.specs.declared.Mode.{Mode}
use Rattle.sheet_format.specs.declared.Mode.TheVariants.{Ctr, Cbc}
use Rattle.set_format.specs.Sets.{sealed_front, sealed_in}
use Rattle.bodies.specs.declared.body.Body.{Body}
use Rattle.bodies.specs.declared.sealing.SealingMode.{SealingMode}
use Rattle.bodies.specs.declared.sealing.SealingMode.TheVariants as held
use Rattle.bodies.specs.declared.sealing.ShortOutput.{ShortOutput}

-- the state of a mode has taken this text in
abbrev pub ModeAt : Mode → Meaning → List ℕ → List ℕ → SealingMode → Type 0
ModeAt Ctr c start text (held.Ctr s) = CtrAt c start text s
ModeAt Ctr c start text (held.Cbc s) = ⊥
ModeAt Cbc c start text (held.Ctr s) = ⊥
ModeAt Cbc c start text (held.Cbc s) = CbcAt c start text s

-- the sealer s, over a body cipher that means c and a tag cipher that means t, has taken the text in: the tag's text so far is
-- its front and what is sealed
pub record SealingAt (c t : Meaning) (mode : Mode) (start front text : List ℕ) (s : Body SealingMode) : Type 0 where
  pub sealing : ModeAt mode c start text s.mode
  pub tagged : MacAt t (front ++ sealed_front mode c start text) s.mac

-- START is the first bytes of its field: n/2 in ctr, n in cbc
abbrev pub start_of : Mode → ℕ → List ℕ → List ℕ
start_of mode n field = take (start_digits mode n / 2) field

-- a new one has taken nothing in, whatever the body cipher
abbrev pub BegunSealing : Meaning → Mode → List ℕ → List ℕ → Body SealingMode → Type 0
BegunSealing tag mode field front s =
    (c t : Meaning) → Lawful c → Same t tag → Lawful t → SealingAt c t mode (start_of mode c.size field) front [] s

-- how many bytes a piece of that length makes, in a mode with that state
abbrev pub feed_writes : ℕ → SealingMode → ℕ → ℕ
feed_writes n (held.Ctr s) len = len
feed_writes n (held.Cbc s) len = sealed_next n (s.chain.filled % n) len

-- how many bytes the end makes: in cbc the filled block, and then the tag of m bytes
abbrev pub last_length : ℕ → SealingMode → ℕ
last_length n (held.Ctr s) = 0
last_length n (held.Cbc s) = n

abbrev pub close_writes : ℕ → ℕ → SealingMode → ℕ
close_writes n m s = last_length n s + m

abbrev pub room_answer : ℕ → ℕ → Result ℕ ShortOutput
room_answer need room = cond (nat_lt room need) (Err record {}) (Ok need)

-- a piece fed to ctr, and to a mode
abbrev pub FedCtr : Meaning → CtrStream → List ℕ → List ℕ → Result ℕ ShortOutput → CtrStream → List ℕ → Type 0
FedCtr cipher s piece out (Ok k) s' out' = JoinedCtr cipher s piece s' (take k out') × (drop k out' ≡ drop k out)
FedCtr cipher s piece out (Err f) s' out' = (s' ≡ s) × (out' ≡ out)

abbrev pub FedMode : Meaning → SealingMode → List ℕ → List ℕ → Result ℕ ShortOutput → SealingMode → List ℕ → Type 0
FedMode cipher s piece out (Ok k) s' out' =
    ((c : Meaning) (mode : Mode) (start text : List ℕ) → Same c cipher → ModeAt mode c start text s
    → ModeAt mode c start (text ++ piece) s' × (sealed_front mode c start (text ++ piece) ≡ sealed_front mode c start text ++ take k out'))
    × (drop k out' ≡ drop k out)
FedMode cipher s piece out (Err f) s' out' = (s' ≡ s) × (out' ≡ out)

-- the end of a mode: what was sealed before and then ys make up the sealed text
abbrev pub FinishedMode : Meaning → SealingMode → List ℕ → Type 0
FinishedMode cipher s ys =
    (c : Meaning) (mode : Mode) (start text : List ℕ) → Same c cipher → ModeAt mode c start text s
    → sealed_in mode c start text ≡ sealed_front mode c start text ++ ys

-- a piece that is fed: refused, everything is as it was; else what is sealed goes on by what was written
abbrev pub FedBody : Meaning → Meaning → Body SealingMode → List ℕ → List ℕ → Result ℕ ShortOutput → Body SealingMode → List ℕ → Type 0
FedBody cipher tag s piece out (Ok k) s' out' =
    ((c t : Meaning) (mode : Mode) (start front text : List ℕ) → Same c cipher → Same t tag → SealingAt c t mode start front text s
    → SealingAt c t mode start front (text ++ piece) s' × (sealed_front mode c start (text ++ piece) ≡ sealed_front mode c start text ++ take k out'))
    × (drop k out' ≡ drop k out)
FedBody cipher tag s piece out (Err f) s' out' = (s' ≡ s) × (out' ≡ out)

-- the end: refused, the output is as it was; else what was sealed before, the rest of it and the tag make up the closed body
abbrev pub ClosedBody : Meaning → Meaning → Body SealingMode → List ℕ → Result ℕ ShortOutput → List ℕ → Type 0
ClosedBody cipher tag s out (Ok k) out' =
    ((c t : Meaning) (mode : Mode) (start front text : List ℕ) → Same c cipher → Same t tag → SealingAt c t mode start front text s
    → sealed_in mode c start text ++ mac t (front ++ sealed_in mode c start text) ≡ sealed_front mode c start text ++ take k out')
    × (drop k out' ≡ drop k out)
ClosedBody cipher tag s out (Err f) out' = out' ≡ out
