use Rattle.modes.proofs.Macs.{subkey-made}
use Rattle.modes.proofs.mac.subkey.Goals as goal

pub returns : goal.returns
returns g c = record {
  made = subkey-made (g.C.BlockCipher.meaning c.args.cipher.now) c.block_length-n.result _ c.write_subkey.new.block c.block_length-n.ensures.value c.write_subkey.ensures.made;
  same = c.write_subkey.ensures.same;
}
