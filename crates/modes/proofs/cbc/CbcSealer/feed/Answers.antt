use Rattle.std.proofs.Common.{◌≡◌, ℕ, ◌+◌, ◌*◌, ◌/◌, ◌%◌, ◌≤◌, length, take, ap, ◌∙◌, subst, mul_comm, arith}
use Rattle.modes.specs.CbcState.{SealedCbc, sealed_next}
use Rattle.modes.proofs.Sealing.{fed-settled, out-ok}
use Rattle.modes.proofs.cbc.CbcSealer.feed.Goals as goal

pub returns : goal.returns
returns g c =
    let m = g.C.BlockCipher.meaning c.args.cipher.now in
    let n = c.block_length-n.result in
    let s = c.args.self.now in
    let size : n ≡ m.size = c.block_length-n.ensures.value in
    let p = c.seal_piece in
    let len = length c.args.piece.now in
    let tested : (s.chain.filled % n + len) / n * n ≤ length c.args.out.now = omega arith in
    let fits : n * ((s.chain.filled % n + len) / n) ≤ length c.args.out.now = rw (mul_comm ((s.chain.filled % n + len) / n) n) at tested in
    record {
      answer =
          out-ok (sealed_next m.size (s.chain.filled % m.size) len) (length c.args.out.now) p.result
          (p.ensures.count ∙ ap (λ (k : ℕ). sealed_next m.size (s.chain.filled % k) len) size)
          (subst (λ (k : ℕ). sealed_next k (s.chain.filled % k) len ≤ length c.args.out.now) size fits);
      after = (
        fed-settled m s p.new.self c.args.piece.now (take p.result p.new.out)
            (subst (λ (k : ℕ). SealedCbc m record { chain = record { register = s.chain.register; filled = s.chain.filled % k } } c.args.piece.now p.new.self (take p.result p.new.out)) size p.ensures.sealed),
        p.ensures.rest,
      );
      same = p.ensures.same;
    }
