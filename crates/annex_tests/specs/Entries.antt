-- What a line of the table is.
use Rattle.std.specs.Prelude.{◌≡◌, ℕ, true, false, List, ◌++◌, codes, Option, Some, None, Result, Ok, Err}
use Rattle.test_tables.specs.Lines.{passed_over}
use Rattle.test_tables.specs.declared.NoCase.{NoCase}
use Rattle.annex_tests.specs.declared.table.Step.{Step}
use Rattle.annex_tests.specs.declared.table.Step.TheVariants.{S, InverseS, R, L, InverseL, X, Lsx, InverseLsx, IterationConstant, FeistelRound, RoundKey, T, G, MagmaRoundKey, InnerRound, LastRound}
use Rattle.annex_tests.specs.declared.table.Value.{Value}

-- the name of a step
abbrev pub name_of : Step → List ℕ
name_of S = codes "kuz-S"
name_of InverseS = codes "kuz-inverse-S"
name_of R = codes "kuz-R"
name_of L = codes "kuz-L"
name_of InverseL = codes "kuz-inverse-L"
name_of X = codes "kuz-X"
name_of Lsx = codes "kuz-lsx"
name_of InverseLsx = codes "kuz-inverse-lsx"
name_of IterationConstant = codes "kuz-C"
name_of FeistelRound = codes "kuz-F"
name_of RoundKey = codes "kuz-K"
name_of T = codes "magma-t"
name_of G = codes "magma-g"
name_of MagmaRoundKey = codes "magma-K"
name_of InnerRound = codes "magma-round"
name_of LastRound = codes "magma-last"

-- the step's name, its input and its output, with a space between
abbrev pub ValueIn : List ℕ → Value → Type 0
ValueIn line v = line ≡ name_of v.step ++ (codes " " ++ (v.input.now ++ (codes " " ++ v.output.now)))

abbrev pub Reads : List ℕ → Result (Option Value) NoCase → Type 0
Reads line (Ok None) = passed_over line ≡ true
Reads line (Ok (Some v)) = (passed_over line ≡ false) × ValueIn line v
Reads line (Err e) = passed_over line ≡ false
