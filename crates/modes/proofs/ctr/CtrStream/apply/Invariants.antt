use Rattle.std.proofs.Common.{◌≡◌, ◌-◌, ◌≤◌, length, take, drop}
use Rattle.block.specs.Blocks.{Same}
use Rattle.modes.specs.CtrState.{JoinedCtr}
use Rattle.modes.proofs.ctr.CtrStream.apply.Given as goal

abbrev pub invariant-loop-at : goal.invariant-loop-at
invariant-loop-at g l =
    let m = g.C.BlockCipher.meaning l.initial.cipher in
    Same m (g.C.BlockCipher.meaning l.cipher)
    × (l.at ≤ length l.bytes)
    × (drop l.at l.bytes ≡ drop l.at l.initial.bytes)
    × JoinedCtr m l.initial.self (take l.at l.initial.bytes) l.self (take l.at l.bytes)

abbrev pub decreases-loop-at : goal.decreases-loop-at
decreases-loop-at g l = length l.initial.bytes - l.at
