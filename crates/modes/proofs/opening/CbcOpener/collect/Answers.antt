use Rattle.std.proofs.Common.{◌≡◌, length, refl, arith}
use Rattle.modes.proofs.Opened.{collected}
use Rattle.modes.proofs.opening.CbcOpener.collect.Goals as goal

pub returns : goal.returns
returns c =
    let s = c.args.self.now in
    let long : length s.block ≡ 16 = omega arith in
    record {
      count = c.min-run.ensures;
      filled = refl;
      copied = collected s.block c.args.piece.now c.copy_from_slice.new.self s.filled c.min-run.result long (omega (arith, c.requires.within, c.requires.short, c.min-run.ensures)) (omega (arith, c.min-run.ensures)) c.copy_from_slice.ensures.after;
      kept = (refl, refl);
    }
