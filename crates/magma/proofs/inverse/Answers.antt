-- The round keys reversed.
use Rattle.std.proofs.Common.{◌≡◌, ◌-◌, reverse, get_or, ◌∙◌, rules}
use Rattle.magma.specs.Magma.{round_keys, deciphered}
use Rattle.magma.specs.Bytes.{reversed-key, reversed-length}
use Rattle.magma.proofs.inverse.Goals as goal

pub returns : goal.returns
unfolding deciphered
returns c =
    let ws = c.args.words.now in
    c.composed.ensures (reverse (round_keys ws)) (reversed-length ws c.told-words)
    (λ i k l e. let key : k ≡ get_or (round_keys ws) (31 - i) 0 = search rules in key ∙ reversed-key ws i c.told-words l)
