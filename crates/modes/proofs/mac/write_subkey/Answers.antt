use Rattle.std.proofs.Common.{arith}
use Rattle.modes_spec.proofs.Cbc.{size-pos}
use Rattle.modes.proofs.mac.write_subkey.Goals as goal

pub double-requires : goal.double-requires
double-requires g c =
    let m = g.C.BlockCipher.meaning c.args.cipher.now in
    let pos = size-pos m (g.met.C.BlockCipher.lawful c.args.cipher.now) in
    omega (arith, pos, c.requires, c.fill.auto.self, c.encipher.auto.block)
