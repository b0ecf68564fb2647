-- What a line of the table is.
use Rattle.std.specs.Prelude.{◌≡◌, ℕ, true, false, List, ◌++◌, codes, Option, Some, None, Result, Ok, Err}
use Rattle.test_tables.specs.Lines.{cipher_name, passed_over}
use Rattle.test_tables.specs.declared.NoCase.{NoCase}
use Rattle.cipher_tests.specs.declared.table.Vector.{Vector}

-- the cipher's name and three words, with a space between
abbrev pub VectorIn : List ℕ → Vector → Type 0
VectorIn line v = line ≡ cipher_name v.cipher ++ (codes " " ++ (v.key.now ++ (codes " " ++ (v.plain.now ++ (codes " " ++ v.ciphertext.now)))))

abbrev pub Reads : List ℕ → Result (Option Vector) NoCase → Type 0
Reads line (Ok None) = passed_over line ≡ true
Reads line (Ok (Some v)) = (passed_over line ≡ false) × VectorIn line v
Reads line (Err e) = passed_over line ≡ false
