-- What the reader's values mean: the same with the bytes in place of the parts of the sheet.
use Rattle.std.specs.Prelude.{◌≡◌, ℕ, ◌+◌, ◌⊎◌, List, [], ◌∷◌, ◌++◌, Some, None, Ok, Err, Option, Result}
use Rattle.std.specs.Borrow.{Bor}
use Rattle.std.specs.Option.{option_map}
use Rattle.sheet_format.specs.Lines as format
use Rattle.sheet_format.specs.Lines.{Form, blank, comment, cipher, body}
use Rattle.sheet_format.specs.declared.SheetFault.{SheetFault}
use Rattle.sheet_format.specs.declared.SheetFault.TheVariants.{NoForm}
use Rattle.sheet_laws.specs.Grammar.{HasForm, Lacks}
use Rattle.sheet_lines.specs.declared.line.BodyLine.{BodyLine}
use Rattle.sheet_lines.specs.declared.line.Line.{Line}
use Rattle.sheet_lines.specs.declared.line.LineKind.{LineKind}
use Rattle.sheet_lines.specs.declared.line.LineKind.TheVariants.{Blank, Comment, Cipher, Body}

abbrev pub pair_model : Option (Bor (List ℕ) × Bor (List ℕ)) → Option (List ℕ × List ℕ)
pair_model None = None
pair_model (Some p) = Some (p.0.now, p.1.now)

abbrev pub body_model : BodyLine → format.Body
body_model b = record { mode = b.mode; start = b.start.now; len = b.length; name = b.name.now }

abbrev pub form_model : LineKind → Form
form_model Blank = blank
form_model Comment = comment
form_model (Cipher c) = cipher c
form_model (Body b) = body (body_model b)

abbrev pub line_model : Line → ℕ × Form
line_model l = (l.number, form_model l.kind)

abbrev pub result_model : Result Line SheetFault → Result (ℕ × Form) SheetFault
result_model (Ok l) = Ok (line_model l)
result_model (Err f) = Err f

abbrev pub read_model : Option (Result Line SheetFault) → Option (Result (ℕ × Form) SheetFault)
read_model r = option_map result_model r

-- the first of the lines that are left, after k that were read
abbrev pub next_of : ℕ → List format.Line → Option (Result (ℕ × Form) SheetFault)
next_of k [] = None
next_of k (None ∷ ls) = Some (Err (NoForm (k + 1)))
next_of k (Some f ∷ ls) = Some (Ok (k + 1, f))

abbrev pub tail_of : List format.Line → List format.Line
tail_of [] = []
tail_of (l ∷ ls) = ls

-- how many were read after that
abbrev pub step_of : ℕ → List format.Line → ℕ
step_of k [] = k
step_of k (l ∷ ls) = k + 1

-- What one call of the reader takes of the bytes that are left. A line that has a form is, with the START and NAME that are
-- handed out, the text of that form; the byte 10 that ends it is taken too.
abbrev pub TakenLine : List ℕ → List ℕ → Option (Result Line SheetFault) → Type 0
TakenLine before after None = (before ≡ []) × (after ≡ [])
TakenLine before after (Some (Ok l)) = (text : List ℕ) × (before ≡ text ++ 10 ∷ after) × HasForm text (form_model l.kind)
TakenLine before after (Some (Err f)) =
    (text : List ℕ) × Lacks 10 text × ((before ≡ text ++ 10 ∷ after) ⊎ ((before ≡ text) × (after ≡ [])))
