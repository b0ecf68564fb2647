use Rattle.std.proofs.Common.{◌≡◌, reverse, drop, ap, ◌∙◌, arith, rules}
use Rattle.std.specs.List.{fold}
use Rattle.std.proofs.lemmas.Iterator.Adapters.{YieldsList-from_rev_slice, YieldsList-from_skip}
use Rattle.std.proofs.lemmas.Iterator.Consumers.{YieldsList-at, fold_from_yields_List}
use Rattle.kuznyechik_spec.proofs.Rounds.{inverse_round, decipher-folded}
use Rattle.kuznyechik.proofs.keys.decipher_block.Goals as goal

pub returns : goal.returns
returns c =
    let ks = c.args.keys.now.keys in
    let rounds : c.fold.result ≡ fold inverse_round c.add_key-b.result (drop 1 (reverse ks)) =
    fold_from_yields_List _ inverse_round c.add_key-b.result c.fold.result c.fold.ensures.ran
    (YieldsList-from_skip 1 (YieldsList-at c.skip.ensures.source (YieldsList-from_rev_slice ks cc)) c.skip.ensures.count) (λ b k r q e. search rules) in
    rounds ∙ ap (λ b. fold inverse_round b (drop 1 (reverse ks))) c.add_key-b.ensures ∙ decipher-folded 9 ks c.args.a (omega arith)
