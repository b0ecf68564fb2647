use Rattle.std.proofs.Common.{◌≡◌, ◌<◌, ◌++◌, take, sym, ap, ◌∙◌, subst, arith}
use Rattle.std.proofs.lemmas.List.{take_all}
use Rattle.block.specs.Blocks.{Same}
use Rattle.modes.specs.CtrState.{CtrAt, JoinedCtr}
use Rattle.modes_spec.specs.Ctr.{ctr}
use Rattle.modes.specs.declared.ctr.CtrStream.{CtrStream}
use Rattle.modes.proofs.Streams.{same_then, refilled-joined, turned}
use Rattle.modes.proofs.ctr.CtrStream.apply.Goals as goal
use Rattle.modes.proofs.ctr.CtrStream.apply.Goals.{then-self-n, else-self-n}

pub loop-at-preserved : goal.loop-at-preserved
loop-at-preserved g c =
    let m = g.C.BlockCipher.meaning c.args.cipher.now in
    let o = g.C.BlockCipher.meaning c.loop-at.cipher in
    let s₀ = c.args.self.now in
    let X = c.args.bytes.now in
    let B = c.loop-at.bytes in
    let at = c.loop-at.at in
    let inv = c.loop-at.invariant in
    let size : c.block_length-n.result ≡ m.size = c.block_length-n.ensures.value in
    let same : Same m (g.C.BlockCipher.meaning c.if-self-n.cipher) =
    elim c.if-self-n.branch [
      | then-self-n w ↦ subst (λ x. Same m (g.C.BlockCipher.meaning x)) (sym w.cipher-is) (same_then m o _ inv.0 w.refill.ensures.same)
      | else-self-n w ↦ subst (λ x. Same m (g.C.BlockCipher.meaning x)) (sym w.cipher-is) inv.0
    ] in
    let joined : JoinedCtr m s₀ (take at X) c.if-self-n.self (take at B) =
    elim c.if-self-n.branch [
      | then-self-n w ↦
          subst (λ (x : CtrStream). JoinedCtr m s₀ (take at X) x (take at B)) (sym w.self-is)
          (refilled-joined m o s₀ c.loop-at.self w.refill.new.self (take at X) (take at B) inv.0 (omega (arith, w.if-self-n.true))
          w.refill.ensures.made w.refill.ensures.long w.refill.ensures.kept inv.3)
      | else-self-n w ↦ subst (λ (x : CtrStream). JoinedCtr m s₀ (take at X) x (take at B)) (sym w.self-is) inv.3
    ] in
    let under : c.if-self-n.self.used < c.block_length-n.result =
    elim c.if-self-n.branch [
      | then-self-n w ↦ omega (arith, ap (λ (x : CtrStream). x.used) w.self-is, w.refill.ensures.kept.1)
      | else-self-n w ↦ omega (arith, ap (λ (x : CtrStream). x.used) w.self-is, w.if-self-n.false)
    ] in
    let t =
    turned m c.block_length-n.result s₀ c.if-self-n.self c.join_run-at.new.self X B c.join_run-at.new.bytes at c.join_run-at.result
    size inv.1 c.loop-at.auto.bytes inv.2 c.join_run-at.ensures.count under c.block_length-n.ensures.high c.join_run-at.ensures.joined c.join_run-at.ensures.kept joined in
    (same, t.0, t.1, t.2)

pub returns : goal.returns
returns g c =
    let X = c.args.bytes.now in
    let B = c.loop-at.bytes in
    let at = c.loop-at.at in
    let inv = c.loop-at.invariant in
    let whole = take_all at X (omega (arith, c.loop-at.auto.bytes)) in
    let out = take_all at B (omega arith) in
    record {
      joined = λ m start taken s h.
          let r = inv.3 m start taken s h in
          (subst (λ x. CtrAt m start (taken ++ x) c.loop-at.self) whole r.0, ap (λ x. ctr m start (taken ++ x)) (sym whole) ∙ r.1 ∙ ap (λ x. ctr m start taken ++ x) out);
      same = inv.0;
    }
