use Rattle.sheet_tests.proofs.trial.DifferenceDisplay.fmt.Goals as goal

pub returns-in-Answer-clause-writes : goal.returns-in-Answer-clause-writes
returns-in-Answer-clause-writes g c = rw c.in-Answer.is c.write.ensures.writes
