-- What a body that is being opened holds, by the sealed bytes that it has taken in.
use Rattle.std.specs.Prelude.{◌≡◌, ℕ, ◌+◌, ◌*◌, cond, List, [], ◌++◌, length, take, drop, Ok, Err, Result, ◌==◌, nat_lt}
use Rattle.block.specs.Blocks.{Meaning, Lawful, Same}
use Rattle.modes_spec.specs.Cbc.{opened_block}
use Rattle.modes_spec.specs.Ctr.{ctr}
use Rattle.modes.specs.CtrState.{CtrAt}
use Rattle.modes.specs.OpenState as cbc
use Rattle.modes.specs.MacState.{MacAt}
use Rattle.modes.specs.declared.cbc.CbcFault.{CbcFault}
use Rattle.modes.specs.declared.cbc.CbcFault.TheVariants as why
use Rattle.sheet_format.specs.declared.Mode.{Mode}
use Rattle.sheet_format.specs.declared.Mode.TheVariants.{Ctr, Cbc}
use Rattle.bodies.specs.SealingState.{start_of}
use Rattle.bodies.specs.declared.body.Body.{Body}
use Rattle.bodies.specs.declared.opening.OpeningMode.{OpeningMode}
use Rattle.bodies.specs.declared.opening.OpeningMode.TheVariants as held
use Rattle.bodies.specs.declared.opening.ProveFault.{ProveFault}
use Rattle.bodies.specs.declared.opening.ProveFault.TheVariants.{Filling, Incomplete}
use Rattle.bodies.specs.declared.opening.TakeFault.{TakeFault}
use Rattle.bodies.specs.declared.opening.TakeFault.TheVariants.{ShortOutput, TooLong}

-- the plain text of sealed bytes, as far as it is opened: in cbc the whole blocks before the last, of which there are so many
abbrev pub opened_front : Mode → Meaning → List ℕ → ℕ → List ℕ → List ℕ
opened_front Ctr c start before sealed = ctr c start sealed
opened_front Cbc c start before sealed = cbc.opened_so_far c start before sealed

-- the state of a mode has taken these sealed bytes in
abbrev pub ModeOpenAt : Mode → Meaning → List ℕ → ℕ → List ℕ → OpeningMode → Type 0
ModeOpenAt Ctr c start before sealed (held.Ctr s) = CtrAt c start sealed s
ModeOpenAt Ctr c start before sealed (held.Cbc s) = ⊥
ModeOpenAt Cbc c start before sealed (held.Ctr s) = ⊥
ModeOpenAt Cbc c start before sealed (held.Cbc s) = cbc.CbcOpenAt c start before sealed s

-- the opener s, over a body cipher that means c and a tag cipher that means t, has taken the sealed bytes in: the tag's text so
-- far is its front and they
pub record OpeningAt (c t : Meaning) (mode : Mode) (start : List ℕ) (before : ℕ) (front sealed : List ℕ) (s : Body OpeningMode) : Type 0 where
  pub opening : ModeOpenAt mode c start before sealed s.mode
  pub tagged : MacAt t (front ++ sealed) s.mac

-- a new one has taken nothing in, whatever the body cipher
abbrev pub BegunOpening : Meaning → Mode → List ℕ → ℕ → List ℕ → Body OpeningMode → Type 0
BegunOpening tag mode field before front s =
    (c t : Meaning) → Lawful c → Same t tag → Lawful t → OpeningAt c t mode (start_of mode c.size field) before front [] s

-- a refusal of cbc, as one of a body
abbrev pub fault_of : CbcFault → TakeFault
fault_of why.ShortOutput = ShortOutput
fault_of why.TooLong = TooLong
fault_of why.Incomplete = ShortOutput
fault_of why.Filling = ShortOutput

abbrev pub with_fault : Result ℕ CbcFault → Result ℕ TakeFault
with_fault (Ok k) = Ok k
with_fault (Err f) = Err (fault_of f)

-- what a piece of that length is answered
abbrev pub take_answer : ℕ → OpeningMode → ℕ → ℕ → Result ℕ TakeFault
take_answer n (held.Ctr s) len room = cond (nat_lt room len) (Err ShortOutput) (Ok len)
take_answer n (held.Cbc s) len room = with_fault (cbc.take_answer n (cbc.settled_fill n s.left s.filled) s.left len room)

-- a piece taken by a mode, and by a body: refused, everything is as it was; else what is opened goes on by what was written
abbrev pub TakenMode : Meaning → OpeningMode → List ℕ → List ℕ → Result ℕ TakeFault → OpeningMode → List ℕ → Type 0
TakenMode cipher s piece out (Ok k) s' out' =
    ((c : Meaning) (mode : Mode) (start : List ℕ) (before : ℕ) (sealed : List ℕ) → Same c cipher → ModeOpenAt mode c start before sealed s
    → ModeOpenAt mode c start before (sealed ++ piece) s' × (opened_front mode c start before (sealed ++ piece) ≡ opened_front mode c start before sealed ++ take k out'))
    × (drop k out' ≡ drop k out)
TakenMode cipher s piece out (Err f) s' out' = (s' ≡ s) × (out' ≡ out)

abbrev pub TakenBody : Meaning → Meaning → Body OpeningMode → List ℕ → List ℕ → Result ℕ TakeFault → Body OpeningMode → List ℕ → Type 0
TakenBody cipher tag s piece out (Ok k) s' out' =
    ((c t : Meaning) (mode : Mode) (start : List ℕ) (before : ℕ) (front sealed : List ℕ) → Same c cipher → Same t tag → OpeningAt c t mode start before front sealed s
    → OpeningAt c t mode start before front (sealed ++ piece) s'
    × (opened_front mode c start before (sealed ++ piece) ≡ opened_front mode c start before sealed ++ take k out'))
    × (drop k out' ≡ drop k out)
TakenBody cipher tag s piece out (Err f) s' out' = (s' ≡ s) × (out' ≡ out)

-- how many bytes of text the last block holds back: none in ctr
abbrev pub rest_length : OpeningMode → ℕ → ℕ
rest_length (held.Ctr s) rest = 0
rest_length (held.Cbc s) rest = rest

-- a refusal of cbc's last block, as one of a body's end
abbrev pub end_fault_of : CbcFault → ProveFault
end_fault_of why.ShortOutput = Incomplete
end_fault_of why.TooLong = Incomplete
end_fault_of why.Incomplete = Incomplete
end_fault_of why.Filling = Filling

-- the text of a last block, of which `rest` bytes are text
abbrev pub text_of : ℕ → Result (List ℕ) CbcFault → Result (List ℕ) ProveFault
text_of rest (Ok block) = Ok (take rest block)
text_of rest (Err f) = Err (end_fault_of f)

-- what the last block of the sealed bytes gives, once they are all there
abbrev pub last_text : Mode → Meaning → List ℕ → ℕ → ℕ → List ℕ → Result (List ℕ) ProveFault
last_text Ctr c start before rest sealed = Ok []
last_text Cbc c start before rest sealed =
    text_of rest (cbc.last_answer (length sealed == c.size * (before + 1)) c.size rest (opened_block c start sealed before))

-- bytes are written to the front of the output and counted, or it is refused and the output is as it was
abbrev pub Gives : Result (List ℕ) ProveFault → List ℕ → Result ℕ ProveFault → List ℕ → Type 0
Gives (Ok ys) out r out' = (r ≡ Ok (length ys)) × (out' ≡ ys ++ drop (length ys) out)
Gives (Err f) out r out' = (r ≡ Err f) × (out' ≡ out)

abbrev pub EndedMode : Meaning → OpeningMode → ℕ → List ℕ → Result ℕ ProveFault → List ℕ → Type 0
EndedMode cipher s rest out r out' =
    (c : Meaning) (mode : Mode) (start : List ℕ) (before : ℕ) (sealed : List ℕ) → Same c cipher → ModeOpenAt mode c start before sealed s
    → Gives (last_text mode c start before rest sealed) out r out'
