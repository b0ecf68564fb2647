use Rattle.std.proofs.Common.{ℕ, List, ◌∙◌, subst}
use Rattle.contents_tests.specs.Agreement.{Tells}
use Rattle.contents_tests.proofs.run_case.Goals as goal

pub returns-then-branch : goal.returns-then-branch
returns-then-branch c = λ _.
    subst (λ (xs : List ℕ). Tells c.args.case.answer.now xs) (c.as_slice.ensures.value ∙ c.in_ok-contents.ensures)
    (c.in_ok-agrees.ensures c.if-branch.true)
