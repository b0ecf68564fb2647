-- When a case of the table agrees with what a sheet is defined to be.
use Rattle.std.specs.Prelude.{◌≡◌, ℕ, true, List, ◌++◌, codes}
use Rattle.std.specs.Str.{bytes_eq}
use Rattle.sheet_format.specs.Orders.{checked_of}
use Rattle.sheet_tests.specs.Escapes.{Means}
use Rattle.sheet_tests.specs.Texts.{answer_text}

-- ANSWER is the text of what the definitions say of the sheet
abbrev pub Expects : List ℕ → List ℕ → Type 0
Expects answer sheet = bytes_eq (answer_text (checked_of 1792 sheet)) answer ≡ true

-- the same of a sheet with its escapes
abbrev pub Agrees : List ℕ → List ℕ → Type 0
Agrees answer text = (sheet : List ℕ) × Means text sheet × Expects answer sheet

-- the case in a line, `ANSWER | SHEET`
abbrev pub HoldsIn : List ℕ → Type 0
HoldsIn line = (answer text : List ℕ) × (line ≡ answer ++ (codes " | " ++ text)) × Agrees answer text
