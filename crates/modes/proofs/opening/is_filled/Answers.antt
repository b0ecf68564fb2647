use Rattle.std.proofs.Common.{◌+◌, ap, rules}
use Rattle.std.proofs.lemmas.List.{take_rest}
use Rattle.modes.specs.OpenState.{all_zeros}
use Rattle.modes.proofs.opening.is_filled.Goals as goal

pub returns-then-block-rest : goal.returns-then-block-rest
returns-then-block-rest c =
    let e = ap all_zeros (take_rest c.args.block.now (c.args.rest + 1)) in
    search (rules, e)
