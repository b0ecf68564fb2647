use Rattle.std.proofs.Common.{◌≡◌, ap, ◌∙◌, get_or, arith, rules}
use lib.Bits.{bit_xor}
use lib.Lanes.{zip2}
use lib.LanesLaws.{length-zip2}
use Rattle.kuznyechik_spec.specs.Kuznyechik.{add_key}
use Rattle.block.proofs.Arrays.{filled}
use Rattle.kuznyechik_spec.proofs.Loops.{added}
use Rattle.kuznyechik.proofs.transformations.add_key.Goals as goal

pub returns : goal.returns
unfolding add_key
returns c =
    let a = c.args.a in
    let ks = c.args.k in
    filled (zip2 bit_xor ks a) (length-zip2 bit_xor ks a (omega arith) ∙ omega arith)
    (λ p q i y e below k.
    let mixed : (q ≡ p) × (y ≡ bit_xor (get_or p.0.now i 0) (get_or p.1.now i 0)) = search rules in (
      mixed.0 ∙ e,
      mixed.1 ∙ ap (λ r. bit_xor (get_or r.0.now i 0) (get_or r.1.now i 0)) e ∙ added ks a i (omega arith) (omega arith),
    ))
    c.from_fn.ensures.items
