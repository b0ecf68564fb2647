use Rattle.std.proofs.Common.{◌≡◌, ℕ, ◌+◌, ◌*◌, ◌<◌, ◌≤◌, length, take, drop}
use Rattle.block.specs.Blocks.{Same}
use Rattle.modes.specs.CbcState.{SealedCbc}
use Rattle.modes.proofs.cbc.CbcSealer.seal_piece.Given as goal

-- the piece is taken in up to some place, and `rest` is what stands behind it; the blocks written, and what is left of the current
-- block, make up what was taken in
abbrev pub invariant-loop-rest : goal.invariant-loop-rest
invariant-loop-rest g l =
    let m = g.C.BlockCipher.meaning l.initial.cipher in
    Same m (g.C.BlockCipher.meaning l.cipher)
    × (l.self.chain.filled < m.size)
    × ((j : ℕ) × (l.written ≡ m.size * j))
    × (drop l.written l.out ≡ drop l.written l.initial.out)
    × ((at : ℕ)
    × (at ≤ length l.piece)
    × (l.rest ≡ drop at l.piece)
    × (l.written + l.self.chain.filled ≡ l.initial.self.chain.filled + at)
    × SealedCbc m l.initial.self (take at l.piece) l.self (take l.written l.out))

abbrev pub decreases-loop-rest : goal.decreases-loop-rest
decreases-loop-rest g l = length l.rest
