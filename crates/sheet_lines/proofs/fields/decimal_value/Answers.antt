use Rattle.std.proofs.Common.{◌≤◌, arith}
use native.Mathlib.Nat.{pow-le-pow_right}
use Rattle.sheet_lines.proofs.fields.decimal_value.Goals as goal

pub overflow_mul-value : goal.overflow_mul-value
overflow_mul-value c =
    let few : c.loop-b.b-index ≤ 6 = omega arith in
    omega (arith, pow-le-pow_right {n = 10} (omega arith) few)

pub overflow_add-value : goal.overflow_add-value
overflow_add-value c =
    let few : c.loop-b.b-index ≤ 6 = omega arith in
    omega (arith, pow-le-pow_right {n = 10} (omega arith) few)
