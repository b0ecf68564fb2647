-- The round keys in order.
use Rattle.std.proofs.Common.{rules}
use Rattle.magma.specs.Magma.{round_keys, enciphered}
use Rattle.magma.specs.Bytes.{keys_length}
use Rattle.magma.proofs.forward.Goals as goal

pub returns : goal.returns
unfolding enciphered
returns c = c.composed.ensures (round_keys c.args.words.now) (keys_length c.args.words.now c.told-words) (λ i k l e. search rules)
