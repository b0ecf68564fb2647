use Rattle.std.proofs.Common.{◌≡◌, length, refl, arith}
use Rattle.modes.proofs.Chaining.{advanced}
use Rattle.modes.proofs.chain.Chain.advance.Goals as goal

pub returns : goal.returns
returns g c =
    let reg = c.args.self.now.register in
    let long : length reg ≡ 16 = omega arith in
    let w = c.block_length-n.ensures in
    let a = advanced (g.C.BlockCipher.meaning c.args.cipher.now) c.block_length-n.result reg c.encipher.new.block w.value w.high long c.encipher.auto.block c.encipher.ensures.made in
    record { made = a.0; long = a.1; begun = refl; same = c.encipher.ensures.same }
