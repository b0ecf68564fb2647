use Rattle.std.proofs.Common.{rules}
use Rattle.kuznyechik_spec.specs.Kuznyechik.{feistel_round}
use Rattle.kuznyechik.proofs.keys.feistel_round.Goals as goal

pub returns : goal.returns
unfolding feistel_round
returns c = search rules
