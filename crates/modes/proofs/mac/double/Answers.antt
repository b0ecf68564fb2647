use Rattle.std.proofs.Common.{◌≡◌, ◌-◌, ◌++◌, length, get_or, take, drop, set, ◌∙◌, ap₂, arith, le-leb}
use borrow.Author.Tests.{lt-leb}
use lib.Bits.{bit_xor}
use Rattle.modes_spec.specs.Mac.{shifted, constant_b}
use Rattle.modes_spec.proofs.Mac.{shift-step, shift-last, join_last, length-shifted, doubled-high, doubled-low}
use Rattle.modes.proofs.mac.double.Goals as goal

pub loop-i-preserved : goal.loop-i-preserved
loop-i-preserved c = shift-step c.args.block.now c.loop-i.block c.loop-i.i (omega arith) c.loop-i.invariant

pub returns-then-high : goal.returns-then-high
returns-then-high c =
    let a = c.args.block.now in
    let i = length a - 1 in
    let at : c.loop-i.i ≡ length a - 1 = omega arith in
    let inv : c.loop-i.block ≡ take (length a - 1) (shifted a) ++ drop (length a - 1) a = rw at at c.loop-i.invariant in
    let moved = shift-last a c.loop-i.block (length a - 1) (omega (arith, c.requires)) inv in
    ap₂ (λ l b. set l (length a - 1) (bit_xor (get_or l (length a - 1) 0) b)) moved c.constant_b.ensures
    ∙ join_last (shifted a) (length a - 1) (constant_b (length a)) (omega (arith, c.requires, length-shifted a))
    ∙ doubled-high (length a) a c.requires (le-leb 128 (get_or a 0 0) c.if-high.true)

pub returns-else-high : goal.returns-else-high
returns-else-high c =
    let a = c.args.block.now in
    let at : c.loop-i.i ≡ length a - 1 = omega arith in
    let inv : c.loop-i.block ≡ take (length a - 1) (shifted a) ++ drop (length a - 1) a = rw at at c.loop-i.invariant in
    shift-last a c.loop-i.block (length a - 1) (omega (arith, c.requires)) inv ∙ doubled-low (length a) a c.requires (lt-leb 128 (get_or a 0 0) c.if-high.false)
