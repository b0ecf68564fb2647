use Rattle.std.proofs.Common.{◌∙◌, rules}
use lib.Bits.{bit_xor, xor_zero_l}
use Rattle.std.proofs.lemmas.Iterator.{YieldsList-from_slice, YieldsList-from_zip}
use Rattle.std.proofs.lemmas.Iterator.Consumers.{YieldsList-at, fold_from_yields_List}
use Rattle.kuznyechik_spec.specs.Field.{multiply}
use Rattle.kuznyechik_spec.specs.Kuznyechik.{coefficients, dot_product, linear}
use Rattle.kuznyechik_spec.proofs.Loops.{products-summed}
use Rattle.kuznyechik.proofs.transformations.linear.Goals as goal

pub returns : goal.returns
unfolding coefficients linear
returns c =
    let a = c.args.a in
    fold_from_yields_List _ (λ t p. bit_xor t (multiply p.0 p.1)) 0 c.fold.result c.fold.ensures.ran
    (YieldsList-from_zip (YieldsList-at c.zip.ensures.first (YieldsList-from_slice coefficients cc)) (YieldsList-at c.zip.ensures.second (YieldsList-from_slice a cc)))
    (λ t x b q k. search rules)
    ∙ products-summed coefficients a 0 ∙ xor_zero_l (dot_product coefficients a)
