-- The answer of `check` as the table writes it.
use Rattle.std.specs.Prelude.{ℕ, List, ◌++◌, Ok, Err, codes, decimal, Result}
use Rattle.sheet_format.specs.Faults.{number_of, place_of}
use Rattle.sheet_format.specs.declared.Checked.{Checked}
use Rattle.sheet_format.specs.declared.SheetFault.{SheetFault}

-- two letters, and three numbers with a space before each
abbrev pub three_numbers : List ℕ → ℕ → ℕ → ℕ → List ℕ
three_numbers word a b c = word ++ (decimal a ++ (codes " " ++ (decimal b ++ (codes " " ++ decimal c))))

-- `ok N BODIES BLOCKS` or `no LAYER NUMBER PLACE`
abbrev pub answer_text : Result Checked SheetFault → List ℕ
answer_text (Ok c) = three_numbers (codes "ok ") c.block_length c.bodies c.blocks
answer_text (Err f) = three_numbers (codes "no ") 2 (number_of f) (place_of f)
