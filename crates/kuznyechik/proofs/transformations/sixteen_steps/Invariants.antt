use mathlib.Core.Path.{◌≡◌}
use mathlib.Core.List.{List}
use Prim.Native.Nat.{ℕ, ◌-◌}
use Rattle.kuznyechik_spec.specs.Kuznyechik.{repeated}
use Rattle.kuznyechik.proofs.transformations.sixteen_steps.Given as goal

-- the steps that are left give what all sixteen give
abbrev pub invariant-loop : goal.invariant-loop
invariant-loop g l =
    (f : List ℕ → List ℕ) → ((x y : List ℕ) → goal.F-post g l.step x y → y ≡ f x) → repeated (16 - l.counter) f l.b ≡ repeated 16 f l.fn.a
