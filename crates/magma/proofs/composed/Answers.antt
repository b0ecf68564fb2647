-- The rounds one by one.
use Rattle.std.proofs.Common.{◌≡◌, ℕ, ◌+◌, drop, sym, ap, ◌∙◌, arith, rules}
use Rattle.magma.specs.Magma.{composed, joined_halves, last_g, round_g}
use Rattle.magma.specs.Rounds.{more, last}
use Rattle.magma.proofs.composed.Goals as goal

pub loop-i-init : goal.loop-i-init
loop-i-init g c = λ ks n is. ap (composed ks) c.halves-a1.ensures

pub loop-i-preserved : goal.loop-i-preserved
loop-i-preserved g c =
    let i = c.loop-i.i in
    let s : ℕ × ℕ = (c.loop-i.a1, c.loop-i.a0) in
    λ ks n is.
    ap (composed (drop (i + 1) ks)) (c.round.ensures ∙ ap (λ (k : ℕ). round_g k s) (is i c.key_at.result (omega arith) (search rules)))
    ∙ sym (more i ks s (omega arith)) ∙ c.loop-i.invariant ks n is

pub returns : goal.returns
returns g c =
    let s : ℕ × ℕ = (c.loop-i.a1, c.loop-i.a0) in
    λ ks n is.
    let at : 31 ≡ c.loop-i.i = omega arith in
    c.joined_halves.ensures
    ∙ ap joined_halves
    (c.last_round-a1.ensures ∙ ap (λ (k : ℕ). last_g k s) (is 31 c.key_at-2.result (omega arith) (search rules))
    ∙ sym (last 31 ks s (sym n)) ∙ ap (λ (j : ℕ). composed (drop j ks) s) at ∙ c.loop-i.invariant ks n is)
