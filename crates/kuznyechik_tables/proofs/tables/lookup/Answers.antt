use Rattle.std.proofs.Common.{get_or, ◌∙◌, arith, rules}
use lib.Bits.{bit_xor}
use Rattle.std.proofs.lemmas.Iterator.{YieldsList-from_slice, YieldsList-from_zip}
use Rattle.std.proofs.lemmas.Iterator.Consumers.{YieldsList-at, fold_from_yields_List}
use Rattle.kuznyechik_spec.proofs.Lookup.{lookup-folded}
use Rattle.kuznyechik_tables.proofs.tables.lookup.Goals as goal

pub returns : goal.returns
returns c =
    let t = c.args.table.now in
    let a = c.args.bytes in
    fold_from_yields_List _ (λ s y. bit_xor s (get_or y.0 y.1 0)) 0 c.fold.result c.fold.ensures.ran
    (YieldsList-from_zip (YieldsList-at c.zip.ensures.first (YieldsList-from_slice t cc)) (YieldsList-at c.zip.ensures.second (YieldsList-from_slice a cc)))
    (λ s y r q k. search rules)
    ∙ lookup-folded t a (omega arith)
