-- One line of the reader, as its iterator gives it.
use Rattle.std.specs.Prelude.{◌≡◌, length, Option, Result}
use Rattle.std.specs.Iterator.{Count, at_most}
use Rattle.sheet_format.specs.Lines.{lines_of}
use Rattle.sheet_format.specs.declared.SheetFault.{SheetFault}
use Rattle.sheet_lines.specs.Models.{TakenLine, next_of, read_model, step_of, tail_of}
use Rattle.sheet_lines.specs.declared.line.Line.{Line}
use Rattle.sheet_lines.specs.declared.reader.Lines.{Lines}

-- the reader s gives r, and is t afterwards
pub record GivesLine (s : Lines) (r : Option (Result Line SheetFault)) (t : Lines) : Type 0 where
  pub value : read_model r ≡ next_of s.number (lines_of s.rest.now)
  pub parts : TakenLine s.rest.now t.rest.now r
  pub rest : lines_of t.rest.now ≡ tail_of (lines_of s.rest.now)
  pub number : t.number ≡ step_of s.number (lines_of s.rest.now)

-- no line has no byte
abbrev pub bytes_left : Lines → Count
bytes_left s = at_most (length s.rest.now)
