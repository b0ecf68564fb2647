-- What a MAC that is fed in pieces holds, by the text that it has taken in so far.
use Rattle.std.specs.Prelude.{◌≡◌, ℕ, ◌-◌, List, [], ◌++◌}
use Rattle.block.specs.Blocks.{Meaning, Lawful, Same}
use Rattle.modes_spec.specs.Mac.{blocks_before, mac}
use Rattle.modes_spec.specs.Texts.{zeros}
use Rattle.modes.specs.ChainState.{ChainAt}
use Rattle.modes.specs.declared.mac.Mac.{Mac}

-- the MAC s of a cipher that means m has taken this text in; all blocks but the last are chained
abbrev pub MacAt : Meaning → List ℕ → Mac → Type 0
MacAt m text s = ChainAt m (zeros m.size) text (blocks_before m.size text) s.chain

-- a new one has taken nothing in, whatever the cipher
abbrev pub BegunMac : Mac → Type 0
BegunMac s = (m : Meaning) → Lawful m → MacAt m [] s

-- where s had taken a text in, s' has taken the piece in behind it
abbrev pub AbsorbedMac : Meaning → Mac → List ℕ → Mac → Type 0
AbsorbedMac cipher s piece s' = (m : Meaning) (text : List ℕ) → Same m cipher → MacAt m text s → MacAt m (text ++ piece) s'

-- where s has taken a text in, the answer is its MAC
abbrev pub FinishedMac : Meaning → Mac → List ℕ → Type 0
FinishedMac cipher s tag = (m : Meaning) (text : List ℕ) → Same m cipher → MacAt m text s → tag ≡ mac m text ++ zeros (16 - m.size)
