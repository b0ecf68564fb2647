-- How the state of `check` stands to the lines that were read.
use Rattle.std.specs.Prelude.{◌≡◌, ℕ, ◌≤◌, not, List, [], ◌∷◌, ◌++◌, map, length, is_some, Some, None, Ok, Err, Option, Result, OnOk}
use Rattle.std.specs.Option.{option_to_list}
use Rattle.sheet_format.specs.Lines.{Body, Form, blank, comment, cipher, body, Line}
use Rattle.sheet_format.specs.Orders.{ciphers_in, bodies_in, none_counts, ordered, total_blocks, line_fault, unless}
use Rattle.sheet_format.specs.Sizes.{block_length}
use Rattle.sheet_format.specs.declared.CipherKind.{CipherKind}
use Rattle.sheet_format.specs.declared.SheetFault.{SheetFault}
use Rattle.sheet.specs.Kept.{Keeps}
use Rattle.sheet.specs.declared.progress.Progress.{Progress}

-- the blocks of the bodies, 0 where there is no cipher yet
abbrev pub blocks_for : List CipherKind → List Body → ℕ
blocks_for [] bs = 0
blocks_for (c ∷ cs) bs = total_blocks (block_length c) (map ordered bs)

-- the state is that of these lines
pub record Stands (p : Progress) (earlier : List Line) : Type 0 where
  pub named : ciphers_in earlier ≡ option_to_list p.cipher
  pub uncounted : none_counts earlier ≡ not (is_some p.cipher)
  pub summed : p.blocks ≡ blocks_for (ciphers_in earlier) (bodies_in earlier)
  pub limited : p.blocks ≤ 1000000
  pub kept : Keeps p.kept (bodies_in earlier)

-- lines that led to the state
abbrev pub Reached : Progress → Type 0
Reached p = (earlier : List Line) × Stands p earlier

-- what is answered to a body line: the blocks with it, or its fault
abbrev pub admitted : ℕ → List Line → Body → Result ℕ SheetFault
admitted k earlier b = unless (line_fault k earlier (Some (body b))) (Ok (blocks_for (ciphers_in earlier) (bodies_in earlier ++ b ∷ [])))

-- a body's START has a digit, and its name fits its place
abbrev pub Fits : Form → Type 0
Fits blank = Unit {0}
Fits comment = Unit {0}
Fits (cipher c) = Unit {0}
Fits (body b) = (1 ≤ length b.start) × (length b.name ≤ 32)

abbrev pub refused_by : Option SheetFault → Result (Unit {0}) SheetFault
refused_by None = Ok tt
refused_by (Some f) = Err f

-- line k, of form f, is refused for its first fault, or leads from one state to the next
pub record Advanced (p q : Progress) (k : ℕ) (f : Form) (r : Result (Unit {0}) SheetFault) : Type 0 where
  pub answer : (earlier : List Line) → Stands p earlier → r ≡ refused_by (line_fault k earlier (Some f))
  pub next : (earlier : List Line) → Stands p earlier → OnOk r (Stands q (earlier ++ Some f ∷ []))
