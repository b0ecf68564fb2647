use Rattle.std.proofs.Common.{◌-◌, ◌%◌, length}
use Rattle.modes_spec.proofs.Filling.{filled-once}
use Rattle.modes_spec.proofs.filled_in_one_way.Goals as goal

pub returns : goal.returns
returns c = λ n a b e. filled-once a b (n - 1 - length a % n) (n - 1 - length b % n) e
