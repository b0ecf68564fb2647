use Rattle.modes_spec.proofs.Ctr.{counters-apart}
use Rattle.modes_spec.proofs.counter_blocks_apart.Goals as goal

pub returns : goal.returns
returns c = counters-apart
