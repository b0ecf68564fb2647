use mathlib.Core.Path.{◌≡◌, refl, sym, ap₂, ◌∙◌}
use Prim.Native.Nat.{◌+◌, ◌-◌, ◌*◌, ◌/◌, ◌%◌}
use native.Mathlib.Omega.{arith}
use lib.Bits.{bit_xor}
use Rattle.kuznyechik_spec.specs.Field.{multiply, multiply_terms}
use Rattle.kuznyechik_spec.proofs.Loops.{multiply-more, multiply-all, odd-sum, even_sum}
use Rattle.kuznyechik.proofs.transformations.multiply.Goals as goal
use Rattle.kuznyechik.proofs.transformations.multiply.Goals.{then-rest-eq1, else-rest-eq1}

pub loop-init : goal.loop-init
unfolding multiply
loop-init c = refl

pub loop-preserved : goal.loop-preserved
loop-preserved c =
    let sum : c.if-rest-eq1.sum ≡ bit_xor c.loop.sum (c.loop.rest % 2 * c.loop.term) =
    elim c.if-rest-eq1.branch [
      | then-rest-eq1 w ↦ w.sum-is ∙ odd-sum c.loop.sum c.loop.rest c.loop.term (omega (arith, w.if-rest-eq1.true))
      | else-rest-eq1 w ↦ w.sum-is ∙ even_sum c.loop.sum c.loop.rest c.loop.term (omega (arith, w.if-rest-eq1.false))
    ] in
    ap₂ (λ x y. bit_xor x (multiply_terms (8 - (c.loop.counter + 1)) (c.loop.rest / 2) y)) sum c.times_x-term.ensures
    ∙ multiply-more c.loop.counter c.loop.sum c.loop.rest c.loop.term c.loop-test.true
    ∙ c.loop.invariant

pub returns : goal.returns
returns c = sym (multiply-all c.loop.counter c.loop.sum c.loop.rest c.loop.term c.loop-test.false) ∙ c.loop.invariant
