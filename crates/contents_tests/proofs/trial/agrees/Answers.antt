use Rattle.std.proofs.Common.{inr}
use Rattle.contents_tests.proofs.trial.agrees.Goals as goal

pub returns-in-Some-strip_prefix-2 : goal.returns-in-Some-strip_prefix-2
returns-in-Some-strip_prefix-2 c = λ t. inr (inr (_, c.changes_as.ensures t))
