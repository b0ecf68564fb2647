-- When a mode or the MAC agrees with a test vector.
use Rattle.std.specs.Prelude.{◌≡◌, ℕ, ◌-◌, ◌/◌, true, List, ◌++◌, length, take, vec_items}
use Rattle.block.specs.Blocks.{Meaning, Same}
use Rattle.hex_digits.specs.Hex.{hex_bytes}
use Rattle.modes_spec.specs.Cbc.{cbc_sealed}
use Rattle.modes_spec.specs.Ctr.{ctr}
use Rattle.modes_spec.specs.Mac.{mac}
use Rattle.modes_spec.specs.Texts.{zeros}
use Rattle.kuznyechik_spec.specs.Kuznyechik.{kuznyechik}
use Rattle.magma.specs.Magma.{magma}
use Rattle.sheet_format.specs.declared.CipherKind.{CipherKind}
use Rattle.sheet_format.specs.declared.CipherKind.TheVariants.{Kuznyechik, Magma}
use Rattle.sheet_format.specs.declared.Mode.{Mode}
use Rattle.sheet_format.specs.declared.Mode.TheVariants.{Ctr, Cbc}
use Rattle.mode_tests.specs.Entries.{VectorIn}
use Rattle.mode_tests.specs.Runs.{OpenedAs}
use Rattle.mode_tests.specs.declared.inputs.MacInput.{MacInput}
use Rattle.mode_tests.specs.declared.inputs.SealedInput.{SealedInput}
use Rattle.mode_tests.specs.declared.table.MacVector.{MacVector}
use Rattle.mode_tests.specs.declared.table.SealedVector.{SealedVector}
use Rattle.mode_tests.specs.declared.table.Vector.{Vector}
use Rattle.mode_tests.specs.declared.table.Vector.TheVariants.{Sealed, Mac}
use Rattle.mode_tests.specs.declared.trial.MacTrial.{MacTrial}
use Rattle.mode_tests.specs.declared.trial.SealedTrial.{SealedTrial}

-- sixteen bytes, with zeros behind
abbrev pub padded : List ℕ → List ℕ
padded xs = xs ++ zeros (16 - length xs)

-- the bytes that the words of a vector mean
pub record SealedInputOf (v : SealedVector) (i : SealedInput) : Type 0 where
  pub start : i.start ≡ padded (hex_bytes v.start.now)
  pub text : vec_items i.text ≡ hex_bytes v.text.now
  pub sealed : vec_items i.sealed ≡ hex_bytes v.sealed.now
  pub tag : i.tag ≡ padded (hex_bytes v.tag.now)

pub record MacInputOf (v : MacVector) (i : MacInput) : Type 0 where
  pub text : vec_items i.text ≡ hex_bytes v.text.now
  pub mac : i.mac ≡ padded (hex_bytes v.mac.now)

-- what a mode makes of a text; START is the front of a block
abbrev pub sealed_by : Mode → Meaning → List ℕ → List ℕ → List ℕ
sealed_by Ctr m start text = ctr m (take (m.size / 2) start) text
sealed_by Cbc m start text = cbc_sealed m (take m.size start) text

-- the MAC, with zeros behind it
abbrev pub whole_mac : Meaning → List ℕ → List ℕ
whole_mac m text = mac m text ++ zeros (16 - m.size)

-- where a trial says so, the mode under a cipher that means m makes the sealed text, and the MAC under one that means o its tag
abbrev pub ConfirmsSealed : Mode → Meaning → Meaning → SealedInput → SealedTrial → Type 0
ConfirmsSealed mode cipher tag_cipher i t =
    (m o : Meaning) → Same m cipher → Same o tag_cipher
    → (t.seals ≡ true → sealed_by mode m i.start (vec_items i.text) ≡ vec_items i.sealed)
    × (t.tags ≡ true → whole_mac o (sealed_by mode m i.start (vec_items i.text)) ≡ i.tag)

-- where a trial says so, the text has the MAC
abbrev pub ConfirmsMac : Meaning → MacInput → MacTrial → Type 0
ConfirmsMac cipher i t =
    (m : Meaning) → Same m cipher
    → (t.first ≡ true → whole_mac m (vec_items i.text) ≡ i.mac) × (t.other ≡ true → whole_mac m (vec_items i.text) ≡ i.mac)

-- a trial that shows no difference
abbrev pub AllSealed : SealedTrial → Type 0
AllSealed t = (t.seals ≡ true) × (t.tags ≡ true) × (t.opens ≡ true)

abbrev pub AllMac : MacTrial → Type 0
AllMac t = (t.first ≡ true) × (t.other ≡ true)

-- what a mode gives back of a sealed text
abbrev pub OpenedBy : Mode → Meaning → List ℕ → ℕ → ℕ → List ℕ → List ℕ → Type 0
OpenedBy Ctr cipher start before rest sealed text = (m : Meaning) → Same m cipher → text ≡ ctr m (take (m.size / 2) start) sealed
OpenedBy Cbc cipher start before rest sealed text = OpenedAs cipher start before rest sealed text

-- both parts of a vector
abbrev pub AgreesSealed : Mode → Meaning → Meaning → SealedVector → Type 0
AgreesSealed mode m o v =
    (sealed_by mode m (padded (hex_bytes v.start.now)) (hex_bytes v.text.now) ≡ hex_bytes v.sealed.now)
    × (whole_mac o (hex_bytes v.sealed.now) ≡ padded (hex_bytes v.tag.now))

abbrev pub AgreesMac : Meaning → MacVector → Type 0
AgreesMac m v = whole_mac m (hex_bytes v.text.now) ≡ padded (hex_bytes v.mac.now)

-- the cipher with the key, and the other one, which makes the tags
abbrev pub cipher_under : CipherKind → List ℕ → Meaning
cipher_under Kuznyechik key = kuznyechik key
cipher_under Magma key = magma key

abbrev pub tag_cipher_under : CipherKind → List ℕ → Meaning
tag_cipher_under Kuznyechik key = magma key
tag_cipher_under Magma key = kuznyechik key

-- a vector agrees, under its keys
abbrev pub HoldsSealed : SealedVector → Type 0
HoldsSealed v = AgreesSealed v.mode (cipher_under v.cipher (hex_bytes v.key.now)) (tag_cipher_under v.cipher (hex_bytes v.tag_key.now)) v

abbrev pub HoldsMac : MacVector → Type 0
HoldsMac v = AgreesMac (cipher_under v.cipher (hex_bytes v.key.now)) v

abbrev pub Holds : Vector → Type 0
Holds (Sealed v) = HoldsSealed v
Holds (Mac v) = HoldsMac v

-- the vector in a line
abbrev pub HoldsIn : List ℕ → Type 0
HoldsIn line = (v : Vector) × VectorIn line v × Holds v
