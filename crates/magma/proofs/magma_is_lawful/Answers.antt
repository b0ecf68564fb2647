-- Magma is lawful under every key.
use Rattle.magma.specs.Magma.{key_words}
use Rattle.magma.specs.Laws.{lawful}
use Rattle.magma.proofs.magma_is_lawful.Goals as goal

pub returns : goal.returns
returns c = record { lawful = λ key h. lawful (key_words key) }
