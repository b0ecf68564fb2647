-- What a line of the table is.
use Rattle.std.specs.Prelude.{◌≡◌, ℕ, true, false, List, ◌++◌, codes, Option, Some, None, Result, Ok, Err}
use Rattle.sheet_format.specs.declared.CipherKind.{CipherKind}
use Rattle.sheet_format.specs.declared.Mode.{Mode}
use Rattle.sheet_format.specs.declared.Mode.TheVariants.{Ctr, Cbc}
use Rattle.test_tables.specs.Lines.{cipher_name, passed_over}
use Rattle.test_tables.specs.declared.NoCase.{NoCase}
use Rattle.mode_tests.specs.declared.table.MacVector.{MacVector}
use Rattle.mode_tests.specs.declared.table.SealedVector.{SealedVector}
use Rattle.mode_tests.specs.declared.table.Vector.{Vector}
use Rattle.mode_tests.specs.declared.table.Vector.TheVariants.{Sealed, Mac}

-- a word, and what stands behind it
infixr 60 ◌␣◌
abbrev pub ◌␣◌ : List ℕ → List ℕ → List ℕ
word ␣ words = word ++ (codes " " ++ words)

abbrev pub SealedIn : List ℕ → SealedVector → Type 0
SealedIn words v =
    words ≡ v.key.now ␣ v.start.now ␣ v.cutting.now ␣ v.other_cutting.now ␣ v.text.now ␣ v.sealed.now ␣ v.tag_key.now ␣ v.tag.now

abbrev pub MacIn : List ℕ → MacVector → Type 0
MacIn words v = words ≡ v.key.now ␣ v.cutting.now ␣ v.other_cutting.now ␣ v.text.now ␣ v.mac.now

abbrev pub mode_name : Mode → List ℕ
mode_name Ctr = codes "ctr"
mode_name Cbc = codes "cbc"

-- the mode and the cipher stand before the words
abbrev pub Headed : List ℕ → List ℕ → CipherKind → (List ℕ → Type 0) → Type 0
Headed line mode cipher Rest = (words : List ℕ) × (line ≡ mode ␣ cipher_name cipher ␣ words) × Rest words

abbrev pub VectorIn : List ℕ → Vector → Type 0
VectorIn line (Sealed v) = Headed line (mode_name v.mode) v.cipher (λ words. SealedIn words v)
VectorIn line (Mac v) = Headed line (codes "mac") v.cipher (λ words. MacIn words v)

abbrev pub Reads : List ℕ → Result (Option Vector) NoCase → Type 0
Reads line (Ok None) = passed_over line ≡ true
Reads line (Ok (Some v)) = (passed_over line ≡ false) × VectorIn line v
Reads line (Err e) = passed_over line ≡ false
