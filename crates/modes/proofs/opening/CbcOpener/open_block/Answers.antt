use Rattle.std.proofs.Common.{◌≡◌, length, arith}
use Rattle.modes.proofs.Opened.{block-opened}
use Rattle.modes.proofs.opening.CbcOpener.open_block.Goals as goal

pub returns : goal.returns
returns g c =
    let s = c.args.self.now in
    let long : length s.block ≡ 16 = omega arith in
    let long2 : length s.previous ≡ 16 = omega arith in
    let w = c.block_length-n.ensures in
    record {
      opened = block-opened (g.C.BlockCipher.meaning c.args.cipher.now) c.block_length-n.result s.block s.previous c.copy_from_slice.new.self c.decipher.new.block c.join_front.new.bytes w.value w.high long long2 c.copy_from_slice.ensures.after c.decipher.auto.block c.decipher.ensures.made c.join_front.ensures;
      same = c.decipher.ensures.same;
    }
