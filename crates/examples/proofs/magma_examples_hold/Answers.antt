-- The values, computed.
use Rattle.std.proofs.Common.{refl}
use Rattle.magma.specs.Magma.{rows, t, g, composed, halves, joined_halves, key_words, round_keys, enciphered, deciphered}
use Rattle.examples.proofs.magma_examples_hold.Goals as goal

pub returns : goal.returns
unfolding rows t g composed halves joined_halves key_words round_keys enciphered deciphered
returns c = record { row = refl; substitution = refl; mixed = refl; forward = refl; inverse = refl }
