use Rattle.std.proofs.Common.{◌≡◌, ⊎_elim, arith}
use Rattle.block.proofs.block_length.Goals as goal

pub returns : goal.returns
returns g c =
    let m = g.C.BlockCipher.meaning c.args.cipher.now in
    let s = (g.met.C.BlockCipher.lawful c.args.cipher.now).sized in
    let n = c.block_length.result in
    let e : n ≡ m.size = c.block_length.ensures in
    record {
      value = e;
      low = ⊎_elim (λ (h : m.size ≡ 8). omega arith) (λ (h : m.size ≡ 16). omega arith) s;
      high = ⊎_elim (λ (h : m.size ≡ 8). omega arith) (λ (h : m.size ≡ 16). omega arith) s;
      even = ⊎_elim (λ (h : m.size ≡ 8). omega arith) (λ (h : m.size ≡ 16). omega arith) s;
    }
