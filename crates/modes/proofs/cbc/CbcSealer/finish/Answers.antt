use Rattle.std.proofs.Common.{◌≡◌, ◌++◌, length, take, sym, refl, ap, ◌∙◌, arith}
use Rattle.modes.specs.CbcState.{sealed_so_far}
use Rattle.modes.proofs.Sealing.{finished-cbc, front-written, out-ok}
use Rattle.modes.proofs.cbc.CbcSealer.finish.Goals as goal

pub returns : goal.returns
returns g c =
    let o = g.C.BlockCipher.meaning c.args.cipher.now in
    let n = c.block_length-n.result in
    let size : n ≡ o.size = c.block_length-n.ensures.value in
    let a = c.advance in
    let out = front-written o n a.new.self.register c.args.out.now c.copy_from_slice.new.self size c.block_length-n.ensures.high a.ensures.long c.copy_from_slice.ensures.after in
    record {
      answer = out-ok o.size (length c.args.out.now) n size (omega arith);
      after = (
        λ m iv text sm hold.
            finished-cbc m o n c.args.self a.new.self _ iv text sm hold (size ∙ sym sm.sizes) refl a.ensures.made a.ensures.long a.ensures.begun
            ∙ ap (λ x. sealed_so_far m iv text ++ x) (ap (λ k. take k a.new.self.register) sm.sizes ∙ sym out.0),
        out.1,
      );
      same = a.ensures.same;
    }
