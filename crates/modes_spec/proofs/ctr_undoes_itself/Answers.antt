use Rattle.modes_spec.specs.Ctr.{counter_stream}
use Rattle.modes_spec.proofs.Cbc.{size-pos}
use Rattle.modes_spec.proofs.Ctr.{joined-twice, length-joined_with, stream-long}
use Rattle.modes_spec.proofs.ctr_undoes_itself.Goals as goal

pub returns : goal.returns
returns c = λ m start text l b h. (
  joined-twice m.size (counter_stream m start) (size-pos m l) (stream-long m start l b) text,
  length-joined_with m.size (counter_stream m start) (size-pos m l) (stream-long m start l b) text,
)
