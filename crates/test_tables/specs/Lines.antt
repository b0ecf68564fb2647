-- What a line of a table is.
use Rattle.std.specs.Prelude.{◌≡◌, ℕ, Bool, true, false, List, [], ◌∷◌, ◌++◌, codes, ◌==◌, ◌≢◌, Option, Some, None, Result, Ok, Err}
use Rattle.sheet_format.specs.declared.CipherKind.{CipherKind}
use Rattle.sheet_format.specs.declared.CipherKind.TheVariants.{Kuznyechik, Magma}
use Rattle.test_tables.specs.declared.Case.{Case}
use Rattle.test_tables.specs.declared.NoCase.{NoCase}
use Rattle.test_tables.specs.declared.Verdict.{Verdict}
use Rattle.test_tables.specs.declared.Verdict.TheVariants.{Agrees, Differs}

-- it is empty, or begins with `#`
abbrev pub passed_over : List ℕ → Bool
passed_over [] = true
passed_over (x ∷ xs) = x == 35

-- `ANSWER | INPUT`
abbrev pub Reads : List ℕ → Result (Option Case) NoCase → Type 0
Reads line (Ok None) = passed_over line ≡ true
Reads line (Ok (Some c)) = (passed_over line ≡ false) × (line ≡ c.answer.now ++ (codes " | " ++ c.input.now))
Reads line (Err e) = (passed_over line ≡ false) × ((xs ys : List ℕ) → line ≢ xs ++ (codes " | " ++ ys))

abbrev pub cipher_name : CipherKind → List ℕ
cipher_name Kuznyechik = codes "kuz"
cipher_name Magma = codes "magma"

-- what a run of a line finds, where a case that agrees meets P
abbrev pub Judges : (List ℕ → Type 0) → List ℕ → Option Verdict → Type 0
Judges P line None = passed_over line ≡ true
Judges P line (Some Agrees) = (passed_over line ≡ false) × P line
Judges P line (Some Differs) = passed_over line ≡ false

-- what is found of a line that was read, where a run of a case finds R
abbrev pub Judged : {T : Type 0} → (T → Verdict → Type 0) → Result (Option T) NoCase → Option Verdict → Type 0
Judged R (Ok None) v = v ≡ None
Judged R (Ok (Some c)) None = ⊥
Judged R (Ok (Some c)) (Some v) = R c v
Judged R (Err e) v = v ≡ Some Differs
