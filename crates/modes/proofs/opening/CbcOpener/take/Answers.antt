use Rattle.std.proofs.Common.{◌≡◌, ℕ, ◌+◌, ◌*◌, ◌≤◌, length, take, ap, ◌∙◌, subst}
use Rattle.modes.specs.OpenState.{OpenedCbc, opened_next, settled_fill}
use Rattle.modes.proofs.Opened.{take-ok, taken-settled}
use Rattle.modes.proofs.opening.CbcOpener.take.Goals as goal

pub returns : goal.returns
returns g c =
    let m = g.C.BlockCipher.meaning c.args.cipher.now in
    let n = c.block_length-n.result in
    let s = c.args.self.now in
    let p = c.open_piece in
    let len = length c.args.piece.now in
    let room = length c.args.out.now in
    let size : n ≡ m.size = c.block_length-n.ensures.value in
    let filled : c.settled-filled.result ≡ settled_fill m.size s.left s.filled = c.settled-filled.ensures ∙ ap (λ (k : ℕ). settled_fill k s.left s.filled) size in
    let fits : c.settled-filled.result + len ≤ n * (s.left + 1) = c.if-n-left.false in
    let tested : opened_next n c.settled-filled.result s.left len ≤ room = rw c.min.ensures at c.if-out-n.false in
    record {
      answer =
          take-ok m.size (settled_fill m.size s.left s.filled) s.left len room p.result
          (p.ensures.count ∙ ap (λ (k : ℕ). opened_next m.size k s.left len) filled)
          (subst (λ (k : ℕ). settled_fill m.size s.left s.filled + len ≤ k * (s.left + 1)) size (subst (λ (k : ℕ). k + len ≤ n * (s.left + 1)) filled fits))
          (subst (λ (k : ℕ). opened_next k (settled_fill m.size s.left s.filled) s.left len ≤ room) size (subst (λ (k : ℕ). opened_next n k s.left len ≤ room) filled tested));
      after = (
        taken-settled m s p.new.self c.args.piece.now (take p.result p.new.out)
            (subst (λ (k : ℕ). OpenedCbc m record { previous = s.previous; block = s.block; filled = k; left = s.left } c.args.piece.now p.new.self (take p.result p.new.out)) filled p.ensures.opened),
        p.ensures.rest,
      );
      same = p.ensures.same;
    }
