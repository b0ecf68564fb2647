-- A text that is sealed or opened in pieces, with the MAC of what is sealed.
use Rattle.std.specs.Prelude.{◌≡◌, ℕ, ◌+◌, ◌-◌, ◌*◌, List, ◌++◌, length, take, Ok, vec_items, Result, ◌==◌}
use Rattle.block.specs.Blocks.{Meaning, Same}
use Rattle.modes_spec.specs.Cbc.{cbc_sealed, opened_block}
use Rattle.modes_spec.specs.Ctr.{ctr}
use Rattle.modes_spec.specs.Mac.{mac}
use Rattle.modes_spec.specs.Texts.{zeros}
use Rattle.modes.specs.CbcState.{CbcAt, sealed_so_far}
use Rattle.modes.specs.CtrState.{CtrAt}
use Rattle.modes.specs.MacState.{MacAt}
use Rattle.modes.specs.OpenState.{CbcOpenAt, last_answer, opened_so_far}
use Rattle.modes.specs.declared.cbc.CbcFault.{CbcFault}
use Rattle.modes.specs.declared.cbc.CbcSealer.{CbcSealer}
use Rattle.modes.specs.declared.ctr.CtrStream.{CtrStream}
use Rattle.modes.specs.declared.opening.CbcOpener.{CbcOpener}
use Rattle.mode_tests.specs.declared.tagged.Tagged.{Tagged}
use Rattle.mode_tests.specs.declared.tagged.Sealed.{Sealed}

-- these bytes are sealed so far, and the MAC under a cipher that means o has taken them in
abbrev pub TaggedAt : Meaning → List ℕ → Tagged → Type 0
TaggedAt o bytes s = (vec_items s.bytes ≡ bytes) × MacAt o bytes s.mac

-- these bytes are sealed, and the tag is their MAC
abbrev pub TaggedWith : Meaning → List ℕ → Sealed → Type 0
TaggedWith o bytes s = (vec_items s.bytes ≡ bytes) × (s.tag ≡ mac o bytes ++ zeros (16 - o.size))

-- this is sealed under the one cipher, whatever has its meaning, and tagged under the other
abbrev pub SealedAs : Meaning → Meaning → (Meaning → List ℕ) → Sealed → Type 0
SealedAs cipher tag_cipher f s = (m o : Meaning) → Same m cipher → Same o tag_cipher → TaggedWith o (f m) s

-- one more piece of a text in ctr
abbrev pub CtrGoesOn : Meaning → Meaning → List ℕ → CtrStream → Tagged → CtrStream → Tagged → Type 0
CtrGoesOn cipher tag_cipher piece s out s' out' =
    (m o : Meaning) (start taken : List ℕ) → Same m cipher → Same o tag_cipher → CtrAt m start taken s → TaggedAt o (ctr m start taken) out
    → CtrAt m start (taken ++ piece) s' × TaggedAt o (ctr m start (taken ++ piece)) out'

-- one more piece of a text in cbc
abbrev pub CbcGoesOn : Meaning → Meaning → List ℕ → CbcSealer → Tagged → CbcSealer → Tagged → Type 0
CbcGoesOn cipher tag_cipher piece s out s' out' =
    (m o : Meaning) (iv taken : List ℕ) → Same m cipher → Same o tag_cipher → CbcAt m iv taken s → TaggedAt o (sealed_so_far m iv taken) out
    → CbcAt m iv (taken ++ piece) s' × TaggedAt o (sealed_so_far m iv (taken ++ piece)) out'

-- the end of a text in cbc
abbrev pub CbcEnds : Meaning → Meaning → CbcSealer → Tagged → Tagged → Type 0
CbcEnds cipher tag_cipher s out out' =
    (m o : Meaning) (iv taken : List ℕ) → Same m cipher → Same o tag_cipher → CbcAt m iv taken s → TaggedAt o (sealed_so_far m iv taken) out
    → TaggedAt o (cbc_sealed m iv taken) out'

-- one more piece of a sealed text in cbc
abbrev pub OpeningGoesOn : Meaning → List ℕ → CbcOpener → List ℕ → CbcOpener → List ℕ → Type 0
OpeningGoesOn cipher piece s out s' out' =
    (m : Meaning) (iv taken : List ℕ) (before : ℕ) → Same m cipher → CbcOpenAt m iv before taken s → out ≡ opened_so_far m iv before taken
    → CbcOpenAt m iv before (taken ++ piece) s' × (out' ≡ opened_so_far m iv before (taken ++ piece))

-- what answers for the last block of a sealed text
abbrev pub last_of : Meaning → List ℕ → List ℕ → ℕ → ℕ → Result (List ℕ) CbcFault
last_of m iv sealed before rest = last_answer (length sealed == m.size * (before + 1)) m.size rest (opened_block m iv sealed before)

-- a sealed text opens to this: the blocks before the last, and the bytes of text of the last, whose filling is right
abbrev pub OpensTo : Meaning → List ℕ → ℕ → ℕ → List ℕ → List ℕ → Type 0
OpensTo m iv before rest sealed text =
    (last : List ℕ) × (last_of m iv sealed before rest ≡ Ok last) × (text ≡ opened_so_far m iv before sealed ++ take rest last)

-- the end of a sealed text in cbc
abbrev pub OpeningEnds : Meaning → CbcOpener → ℕ → List ℕ → List ℕ → Type 0
OpeningEnds cipher s rest out out' =
    (m : Meaning) (iv sealed : List ℕ) (before : ℕ) → Same m cipher → CbcOpenAt m iv before sealed s → out ≡ opened_so_far m iv before sealed
    → OpensTo m iv before rest sealed out'

-- it opens to this under the cipher, whatever has its meaning
abbrev pub OpenedAs : Meaning → List ℕ → ℕ → ℕ → List ℕ → List ℕ → Type 0
OpenedAs cipher start before rest sealed text = (m : Meaning) → Same m cipher → OpensTo m (take m.size start) before rest sealed text
