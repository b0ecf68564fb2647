use mathlib.Core.Path.{◌≡◌}
use Prim.Native.Nat.{◌-◌}
use lib.Bits.{bit_xor}
use Rattle.kuznyechik_spec.specs.Field.{multiply_terms, multiply}
use Rattle.kuznyechik.proofs.transformations.multiply.Given as goal

abbrev pub invariant-loop : goal.invariant-loop
invariant-loop l = bit_xor l.sum (multiply_terms (8 - l.counter) l.rest l.term) ≡ multiply l.c l.a
