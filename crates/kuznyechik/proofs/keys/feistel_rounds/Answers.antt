use Rattle.std.proofs.Common.{refl, ◌∙◌, ◌+◌, arith, rules}
use Rattle.std.proofs.lemmas.Iterator.{YieldsList-from_range}
use Rattle.kuznyechik_spec.specs.Kuznyechik.{feistel_round, iteration_constant}
use Rattle.kuznyechik_spec.proofs.Chains.{fold-seen}
use Rattle.kuznyechik_spec.proofs.Schedule.{rounds-folded}
use Rattle.kuznyechik.specs.Pairs.{halves_of}
use Rattle.kuznyechik.proofs.keys.feistel_rounds.Goals as goal

pub returns : goal.returns
returns c =
    let first = c.args.first in
    fold-seen _ halves_of (λ t i. feistel_round (iteration_constant i) t) c.args.t c.fold.result c.fold.ensures.ran
    (YieldsList-from_range first (first + 8) 8 refl (omega arith)) (λ t i u q k. search rules)
    ∙ rounds-folded 8 first (halves_of c.args.t)
