use Rattle.std.proofs.Common.{◌≡◌, [], get_or, take, ap, ◌∙◌, arith, rules}
use Rattle.std.specs.List.{fold}
use Rattle.std.proofs.lemmas.Iterator.{YieldsList-from_slice, YieldsList-from_take}
use Rattle.std.proofs.lemmas.Iterator.Consumers.{YieldsList-at, fold_from_yields_List}
use Rattle.kuznyechik_spec.specs.Kuznyechik.{add_key}
use Rattle.kuznyechik_spec.proofs.Rounds.{round, encipher-folded}
use Rattle.kuznyechik.proofs.keys.encipher_block.Goals as goal

pub returns : goal.returns
returns c =
    let ks = c.args.keys.now.keys in
    let rounds : c.fold-b.result ≡ fold round c.args.a (take 9 ks) =
    fold_from_yields_List _ round c.args.a c.fold-b.result c.fold-b.ensures.ran
    (YieldsList-from_take 9 (YieldsList-at c.take.ensures.source (YieldsList-from_slice ks cc)) c.take.ensures.count) (λ b k r q e. search rules) in
    c.add_key.ensures ∙ ap (add_key (get_or ks 9 [])) rounds ∙ encipher-folded 9 ks c.args.a (omega arith)
