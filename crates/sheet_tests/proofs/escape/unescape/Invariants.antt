use Rattle.std.proofs.Common.{ℕ, List, ◌++◌, length, vec_items}
use Rattle.sheet_tests.specs.Escapes.{Means}
use Rattle.sheet_tests.proofs.escape.unescape.Given as goal

abbrev pub invariant-loop-rest : goal.invariant-loop-rest
invariant-loop-rest l = (more : List ℕ) → Means l.rest more → Means l.text (vec_items l.bytes ++ more)

abbrev pub decreases-loop-rest : goal.decreases-loop-rest
decreases-loop-rest l = length l.rest
