-- What the rounds keep: those that are left give the whole.
use Rattle.std.proofs.Common.{◌≡◌, ℕ, ◌<◌, List, length, get_or, drop}
use Rattle.magma.specs.Magma.{composed, halves}
use Rattle.magma.proofs.composed.Given as goal

abbrev pub invariant-loop-i : goal.invariant-loop-i
invariant-loop-i g l =
    (ks : List ℕ) → length ks ≡ 32 → ((i k : ℕ) → i < 32 → goal.F-post g l.key_at i k → k ≡ get_or ks i 0) → composed (drop l.i ks) (l.a1, l.a0) ≡ composed ks (halves l.fn.block)
