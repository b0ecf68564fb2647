-- The laws of reading, from their proofs.
use Rattle.sheet_laws.proofs.Forms.{no-form-fits}
use Rattle.sheet_laws.proofs.Rows.{lines-make-sheet, reads-written}
use Rattle.sheet_laws.proofs.reading_is_the_grammar.Goals as goal

pub returns : goal.returns
returns c = record { written = reads-written; lines = lines-make-sheet; unformed = no-form-fits }
