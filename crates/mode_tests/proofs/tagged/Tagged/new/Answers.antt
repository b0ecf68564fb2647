use Rattle.mode_tests.proofs.tagged.Tagged.new.Goals as goal

pub returns : goal.returns
returns c = λ m l. (c.new.ensures.items, c.new-2.ensures m l)
