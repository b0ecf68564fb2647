use Rattle.std.proofs.Common.{[], vec_items, subst, append-nil, rules}
use Rattle.std.proofs.lemmas.List.{nil_from_length}
use Rattle.sheet_tests.specs.Escapes.{Means}
use Rattle.sheet_tests.proofs.escape.unescape.Goals as goal

pub returns : goal.returns
returns c =
    let e = nil_from_length c.loop-rest.rest.now (search rules) in
    subst (λ xs. Means c.args.text.now xs) (append-nil (vec_items c.loop-rest.bytes)) (c.loop-rest.invariant [] e)
