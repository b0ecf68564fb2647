use Rattle.std.proofs.Common.{◌≡◌, ℕ, ◌+◌, ◌*◌, ◌<◌, ◌≤◌, length, take, drop}
use Rattle.block.specs.Blocks.{Same}
use Rattle.modes.proofs.Opened.{CollectedCbc}
use Rattle.modes.proofs.opening.CbcOpener.open_piece.Given as goal

-- the piece is taken in up to some place, and `rest` is what stands behind it; the blocks written, and what there is of the current
-- block, make up what was taken in
abbrev pub invariant-loop-self : goal.invariant-loop-self
invariant-loop-self g l =
    let m = g.C.BlockCipher.meaning l.initial.cipher in
    Same m (g.C.BlockCipher.meaning l.cipher)
    × (l.self.filled ≤ m.size)
    × (0 < l.self.left → l.self.filled < m.size)
    × ((j : ℕ) × ((l.written ≡ m.size * j) × (j + l.self.left ≡ l.initial.self.left)))
    × (drop l.written l.out ≡ drop l.written l.initial.out)
    × ((at : ℕ)
    × (at ≤ length l.piece)
    × (l.rest ≡ drop at l.piece)
    × (l.written + l.self.filled ≡ l.initial.self.filled + at)
    × CollectedCbc m l.initial.self (take at l.piece) l.self (take l.written l.out))

abbrev pub decreases-loop-self : goal.decreases-loop-self
decreases-loop-self g l = length l.rest
