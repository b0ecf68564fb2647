use Rattle.std.proofs.Common.{◌≡◌, ℕ, suc, ◌+◌, ◌*◌, ◌/◌, ◌<◌, ◌≤◌, ◌++◌, length, take, sym, ap, ◌∙◌, subst, mul-suc, arith}
use Rattle.std.proofs.lemmas.List.{take_all, length-drop}
use Rattle.std.proofs.lemmas.Bool.Decides.{nat_tests}
use Rattle.modes.specs.CbcState.{CbcAt, SealedCbc, sealed_so_far}
use Rattle.modes.proofs.Sealing.{sealing-joined, sealed-short, sealed-block, block_written, room_for, all-sealed}
use Rattle.modes.proofs.Streams.{rest-behind, same_then, run-within}
use Rattle.modes.proofs.cbc.CbcSealer.seal_piece.Goals as goal

pub loop-rest-preserved : goal.loop-rest-preserved
loop-rest-preserved g c =
    let m = g.C.BlockCipher.meaning c.args.cipher.now in
    let inv = c.loop-rest.invariant in
    let at = inv.4.0 in
    let n = c.block_length-n.result in
    let size : n ≡ m.size = c.block_length-n.ensures.value in
    let j = c.join-run in
    let f : j.new.self.filled ≡ c.loop-rest.self.chain.filled + j.result = j.ensures.filled in
    let lt : c.loop-rest.self.chain.filled < n = omega (arith, inv.1) in
    let joined =
    sealing-joined m n c.args.self.now c.loop-rest.self j.new.self c.args.piece.now c.loop-rest.rest.now (take c.loop-rest.written c.loop-rest.out) at j.result
    size c.block_length-n.ensures.high c.are_bytes.ensures inv.4.2 j.ensures.count lt f j.ensures.joined inv.4.4 in
    let under : j.new.self.filled < m.size = omega (arith, c.if-self-n.false) in
    let go = run-within n c.loop-rest.self.chain.filled at j.result c.args.piece.now c.loop-rest.rest.now inv.4.2 j.ensures.count inv.4.1 in (
      inv.0,
      under,
      inv.2,
      inv.3,
      (
        at + j.result,
        go.0,
        rest-behind at j.result c.args.piece.now c.loop-rest.rest.now inv.4.2,
        omega (arith, inv.4.3),
        sealed-short m c.args.self.now j.new.self _ _ under joined,
      ),
    )

pub loop-rest-preserved-then-self-n : goal.loop-rest-preserved-then-self-n
loop-rest-preserved-then-self-n g c =
    let m = g.C.BlockCipher.meaning c.args.cipher.now in
    let o = g.C.BlockCipher.meaning c.loop-rest.cipher in
    let inv = c.loop-rest.invariant in
    let at = inv.4.0 in
    let n = c.block_length-n.result in
    let size : n ≡ m.size = c.block_length-n.ensures.value in
    let j = c.join-run in
    let a = c.advance in
    let w = c.loop-rest.written in
    let f : j.new.self.filled ≡ c.loop-rest.self.chain.filled + j.result = j.ensures.filled in
    let lt : c.loop-rest.self.chain.filled < n = omega (arith, inv.1) in
    let joined =
    sealing-joined m n c.args.self.now c.loop-rest.self j.new.self c.args.piece.now c.loop-rest.rest.now (take w c.loop-rest.out) at j.result
    size c.block_length-n.ensures.high c.are_bytes.ensures inv.4.2 j.ensures.count lt f j.ensures.joined inv.4.4 in
    let full : m.size ≤ j.new.self.filled = omega (arith, c.if-self-n.true) in
    let go = run-within n c.loop-rest.self.chain.filled at j.result c.args.piece.now c.loop-rest.rest.now inv.4.2 j.ensures.count inv.4.1 in
    let exact : j.new.self.filled ≡ n = omega (arith, c.if-self-n.true, go.1) in
    let pos : 0 < n = omega (arith, c.block_length-n.ensures.low) in
    let all : m.size * ((c.args.self.now.chain.filled + length c.args.piece.now) / m.size) ≤ length c.loop-rest.out = omega (arith, c.requires.room, c.loop-rest.auto.out) in
    let fits : n * ((c.args.self.now.chain.filled + length c.args.piece.now) / n) ≤ length c.loop-rest.out =
    subst (λ (k : ℕ). k * ((c.args.self.now.chain.filled + length c.args.piece.now) / k) ≤ length c.loop-rest.out) (sym size) all in
    let room : w + n ≤ length c.loop-rest.out =
    room_for n inv.2.0 c.args.self.now.chain.filled (at + j.result) (length c.args.piece.now) (length c.loop-rest.out) w pos (inv.2.1 ∙ ap (λ (k : ℕ). k * inv.2.0) (sym size)) (omega (arith, inv.4.3)) go.0 fits in
    let zero : a.new.self.filled < m.size = omega (arith, a.ensures.begun) in
    let block = sealed-block m o c.args.self.now j.new.self a.new.self (take (at + j.result) c.args.piece.now) (take w c.loop-rest.out) inv.0 full a.ensures.made a.ensures.long a.ensures.begun joined in
    let out = block_written m n w a.new.self.register c.loop-rest.out c.args.out.now c.copy_from_slice.new.self size c.block_length-n.ensures.high a.ensures.long room c.copy_from_slice.ensures.after inv.3 in (
      same_then m o _ inv.0 a.ensures.same,
      zero,
      (suc inv.2.0, omega (arith, inv.2.1, size, mul-suc m.size inv.2.0)),
      out.1,
      (
        at + j.result,
        go.0,
        rest-behind at j.result c.args.piece.now c.loop-rest.rest.now inv.4.2,
        omega (arith, inv.4.3, a.ensures.begun),
        subst (λ x. SealedCbc m c.args.self.now (take (at + j.result) c.args.piece.now) record { chain = a.new.self } x) (sym out.0) (sealed-short m c.args.self.now a.new.self _ _ zero block),
      ),
    )

pub returns : goal.returns
returns g c =
    let m = g.C.BlockCipher.meaning c.args.cipher.now in
    let inv = c.loop-rest.invariant in
    let at = inv.4.0 in
    let X = c.args.piece.now in
    let none : length c.loop-rest.rest.now ≡ 0 = grind (arith, nat_tests) in
    let end : at ≡ length X = omega (arith, inv.4.1, ap length inv.4.2, length-drop at X, none) in
    let whole = take_all at X (omega arith) in
    record {
      count = all-sealed m.size inv.2.0 c.args.self.now.chain.filled c.loop-rest.self.chain.filled (length X) c.loop-rest.written inv.2.1 (inv.4.3 ∙ ap (λ (k : ℕ). c.args.self.now.chain.filled + k) end) inv.1;
      sealed = λ o iv text s h.
          let r = inv.4.4 o iv text s h in
          (subst (λ x. CbcAt o iv (text ++ x) c.loop-rest.self) whole r.0, ap (λ x. sealed_so_far o iv (text ++ x)) (sym whole) ∙ r.1);
      rest = inv.3;
      same = inv.0;
    }
