use Rattle.modes.proofs.Streams.{begun-ctr}
use Rattle.modes.proofs.ctr.CtrStream.new.Goals as goal

pub returns : goal.returns
returns c = λ m l. begun-ctr m c.args.start.now l c.told-start c.are_bytes.ensures
