use Rattle.modes.proofs.Sealing.{begun-cbc}
use Rattle.modes.proofs.cbc.CbcSealer.new.Goals as goal

pub returns : goal.returns
returns c = λ m l. begun-cbc m c.args.start.now l c.told-start c.are_bytes.ensures
