use Rattle.std.proofs.Common.{◌≡◌, ◌<◌, ◌+◌, ◌++◌, length, take, sym, ap, subst, arith}
use Rattle.std.proofs.lemmas.List.{take_all, length-drop}
use Rattle.std.proofs.lemmas.Bool.Decides.{nat_tests}
use Rattle.block.specs.Blocks.{Same}
use Rattle.modes.specs.MacState.{MacAt}
use Rattle.modes.specs.declared.mac.Mac.{Mac}
use Rattle.modes.proofs.Macs.{Ready, ready-advanced, ready-already, absorbed-turn}
use Rattle.modes.proofs.Streams.{same_then}
use Rattle.modes.proofs.mac.Mac.absorb.Goals as goal
use Rattle.modes.proofs.mac.Mac.absorb.Goals.{then-self-n, else-self-n}

pub loop-rest-preserved : goal.loop-rest-preserved
loop-rest-preserved g c =
    let m = g.C.BlockCipher.meaning c.args.cipher.now in
    let o = g.C.BlockCipher.meaning c.loop-rest.cipher in
    let s₀ = c.args.self.now in
    let X = c.args.piece.now in
    let inv = c.loop-rest.invariant in
    let at = inv.1.0 in
    let held = inv.1.3 in
    let n = c.block_length-n.result in
    let size : n ≡ m.size = c.block_length-n.ensures.value in
    let same : Same m (g.C.BlockCipher.meaning c.if-self-n.cipher) =
    elim c.if-self-n.branch [
      | then-self-n w ↦ subst (λ x. Same m (g.C.BlockCipher.meaning x)) (sym w.cipher-is) (same_then m o _ inv.0 w.advance.ensures.same)
      | else-self-n w ↦ subst (λ x. Same m (g.C.BlockCipher.meaning x)) (sym w.cipher-is) inv.0
    ] in
    let ready : Ready m s₀ (take at X) c.if-self-n.self.chain =
    elim c.if-self-n.branch [
      | then-self-n w ↦
          subst (λ (x : Mac). Ready m s₀ (take at X) x.chain) (sym w.self-is)
          (ready-advanced m o s₀ c.loop-rest.self w.advance.new.self (take at X) inv.0 (g.met.C.BlockCipher.lawful c.args.cipher.now) (omega (arith, w.if-self-n.true))
          w.advance.ensures.made w.advance.ensures.long w.advance.ensures.begun held)
      | else-self-n w ↦
          subst (λ (x : Mac). Ready m s₀ (take at X) x.chain) (sym w.self-is) (ready-already m s₀ c.loop-rest.self (take at X) (omega (arith, w.if-self-n.false)) held)
    ] in
    let some : 0 < length c.loop-rest.rest.now = grind (arith, nat_tests) in
    let t =
    absorbed-turn m n s₀ c.if-self-n.self.chain record { chain = c.join-run.new.self } X c.loop-rest.rest.now at c.join-run.result size c.block_length-n.ensures.high c.are_bytes.ensures
    inv.1.2 some c.join-run.ensures.count c.join-run.ensures.filled c.join-run.ensures.joined ready in
    (same, (at + c.join-run.result, t.0, t.1, t.2))

pub returns-clause-absorbed : goal.returns-clause-absorbed
returns-clause-absorbed g c = λ m text s h.
    let X = c.args.piece.now in
    let inv = c.loop-rest.invariant in
    let none : length c.loop-rest.rest.now ≡ 0 = grind (arith, nat_tests) in
    let whole = take_all inv.1.0 X (omega (arith, ap length inv.1.2, length-drop inv.1.0 X, none)) in
    subst (λ x. MacAt m (text ++ x) c.loop-rest.self) whole (inv.1.3 m text s h)
