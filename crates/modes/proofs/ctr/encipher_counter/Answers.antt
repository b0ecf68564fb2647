use Rattle.modes.proofs.Streams.{counter-made}
use Rattle.modes.proofs.ctr.encipher_counter.Goals as goal

pub returns : goal.returns
returns g c = record {
  made =
      let w = c.block_length-n.ensures in
      counter-made (g.C.BlockCipher.meaning c.args.cipher.now) c.block_length-n.result c.args.number c.args.start.now c.args.block.now
      c.copy_from_slice.new.self c.write_number.new.part c.encipher.new.block
      w.value w.low w.high w.even c.requires.begun c.requires.long c.copy_from_slice.ensures.after c.write_number.ensures c.encipher.auto.block c.encipher.ensures.made;
  same = c.encipher.ensures.same;
}
