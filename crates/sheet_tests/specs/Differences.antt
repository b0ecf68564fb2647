-- A difference as it is printed.
use Rattle.std.specs.Prelude.{ℕ, List, ◌++◌, codes, decimal}
use Rattle.sheet_tests.specs.Texts.{answer_text}
use Rattle.sheet_tests.specs.declared.trial.Difference.{Difference}
use Rattle.sheet_tests.specs.declared.trial.Difference.TheVariants.{Answer, Work}

abbrev pub difference_text : Difference → List ℕ
difference_text (Answer got n) = answer_text got.0 ++ (codes " with a work area of " ++ decimal n)
difference_text (Work n) = codes "a wrong work area of " ++ decimal n
