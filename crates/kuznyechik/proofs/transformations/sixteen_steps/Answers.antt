use Rattle.std.proofs.Common.{◌+◌, ◌-◌, sym, ap, ◌∙◌, rules}
use Rattle.kuznyechik_spec.specs.Kuznyechik.{repeated}
use Rattle.kuznyechik_spec.proofs.Loops.{repeated-more, repeated-all}
use Rattle.kuznyechik.proofs.transformations.sixteen_steps.Goals as goal

pub loop-preserved : goal.loop-preserved
loop-preserved g c =
    let i = c.loop.counter in
    let b = c.loop.b in
    λ f is. ap (repeated (16 - (i + 1)) f) (is b c.step-next.result (search rules)) ∙ repeated-more i 16 f b c.loop-test.true ∙ c.loop.invariant f is

pub returns : goal.returns
returns g c = λ f is. sym (repeated-all c.loop.counter 16 f c.loop.b c.loop-test.false) ∙ c.loop.invariant f is
