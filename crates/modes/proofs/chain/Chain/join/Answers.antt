use Rattle.std.proofs.Common.{◌≡◌, length, refl, arith}
use Rattle.modes.proofs.Chaining.{joined-behind}
use Rattle.modes.proofs.chain.Chain.join.Goals as goal

pub returns : goal.returns
returns c =
    let s = c.args.self.now in
    let long : length s.register ≡ 16 = omega arith in
    record {
      count = c.min-run.ensures;
      filled = refl;
      joined = joined-behind s.register c.args.piece.now c.join_front.new.bytes s.filled c.min-run.result long (omega (arith, c.requires.within, c.requires.short)) c.join_front.ensures;
    }
