-- The prepared cipher is the one of the key.
use Rattle.magma.specs.Magma.{key_words}
use Rattle.magma.specs.Laws.{same}
use Rattle.magma.proofs.Magma.prepare.Goals as goal

pub returns : goal.returns
returns c = same c.key_words-words.result (key_words c.args.key.now) c.key_words-words.ensures
