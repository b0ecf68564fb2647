-- The grammar of an order sheet: which texts have which form, and how lines make a sheet.
use Rattle.std.specs.Prelude.{◌≡◌, ℕ, ◌<◌, true, List, [], ◌∷◌, ◌++◌, map, length, Some, None, codes, ◌≢◌}
use Rattle.std.specs.List.{flat_map, AllByRecursion}
use Rattle.sheet_format.specs.Digits.{decimal_of}
use Rattle.sheet_format.specs.Lines.{Row, ended, unended, rows_of, Body, Form, blank, comment, cipher, body, is_start, is_name, form_of, lines_of}
pub use Rattle.sheet_format.specs.Words.{cipher_word, mode_word}

-- each follows from the other
abbrev pub Iff : Type 0 → Type 0 → Type 0
Iff P Q = (P → Q) × (Q → P)

abbrev pub spaced : List ℕ → List ℕ → List ℕ
spaced word rest = word ++ 32 ∷ rest

-- the text of a body line: `b MODE START LENGTH NAME`, where digits are those of LENGTH
abbrev pub body_text : Body → List ℕ → List ℕ
body_text b digits = spaced (codes "b") (spaced (mode_word b.mode) (spaced b.start (spaced digits b.name)))

-- no byte of the list is `at`
abbrev pub Lacks : ℕ → List ℕ → Type 0
Lacks at xs = AllByRecursion (λ x. x ≢ at) xs

-- the text, without its byte 10, has the form
abbrev pub HasForm : List ℕ → Form → Type 0
HasForm text blank = text ≡ []
HasForm text comment = (rest : List ℕ) × (text ≡ 35 ∷ rest) × Lacks 10 rest
HasForm text (cipher c) = text ≡ spaced (codes "c") (cipher_word c)
HasForm text (body b) =
    (digits : List ℕ) × (text ≡ body_text b digits)
    × (is_start b.start ≡ true) × (decimal_of digits ≡ Some b.len) × (is_name b.name ≡ true)

-- the sheet is a row of lines, each ended by a byte 10, that have these forms
abbrev pub Written : List ℕ → List Form → Type 0
Written sheet forms =
    (lines : List (List ℕ × Form)) × (sheet ≡ flat_map (λ p. p.0 ++ 10 ∷ []) lines)
    × AllByRecursion (λ p. HasForm p.0 p.1) lines × (map (λ p. p.1) lines ≡ forms)

-- reading finds the forms of exactly the sheets that are written so
abbrev pub ReadsWritten : Type 0
ReadsWritten = (sheet : List ℕ) (forms : List Form) → Iff (lines_of sheet ≡ map (λ f. Some f) forms) (Written sheet forms)

-- a line's text, and its bytes in the sheet
abbrev pub text_of : Row → List ℕ
text_of (ended text) = text
text_of (unended text) = text

abbrev pub bytes_of : Row → List ℕ
bytes_of (ended text) = text ++ 10 ∷ []
bytes_of (unended text) = text

-- only the last line can want its byte 10, and then it is not empty
abbrev pub LastUnended : List Row → Type 0
LastUnended [] = Unit {0}
LastUnended (ended text ∷ rows) = LastUnended rows
LastUnended (unended text ∷ rows) = (0 < length text) × (rows ≡ [])

-- what the lines of any sheet are: they make up the sheet, and each ends at the first byte 10
abbrev pub LinesMakeSheet : Type 0
LinesMakeSheet =
    (sheet : List ℕ)
    → (flat_map bytes_of (rows_of sheet) ≡ sheet) × AllByRecursion (λ r. Lacks 10 (text_of r)) (rows_of sheet) × LastUnended (rows_of sheet)

-- a line has no form exactly where none of the forms fits its text
abbrev pub NoFormFits : Type 0
NoFormFits = (text : List ℕ) → Lacks 10 text → Iff (form_of text ≡ None) ((f : Form) → HasForm text f → ⊥)
