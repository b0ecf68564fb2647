use Rattle.std.proofs.Common.{◌≡◌, ℕ, ◌≤◌, length, take, drop}
use Rattle.block.specs.Blocks.{Same}
use Rattle.modes.specs.MacState.{AbsorbedMac}
use Rattle.modes.proofs.mac.Mac.absorb.Given as goal

-- the piece is taken in up to some place, and `rest` is what stands behind it
abbrev pub invariant-loop-rest : goal.invariant-loop-rest
invariant-loop-rest g l =
    let m = g.C.BlockCipher.meaning l.initial.cipher in
    Same m (g.C.BlockCipher.meaning l.cipher)
    × ((at : ℕ) × (at ≤ length l.piece) × (l.rest ≡ drop at l.piece) × AbsorbedMac m l.initial.self (take at l.piece) l.self)

abbrev pub decreases-loop-rest : goal.decreases-loop-rest
decreases-loop-rest g l = length l.rest
