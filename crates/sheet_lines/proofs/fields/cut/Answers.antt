use Rattle.std.proofs.Common.{◌+◌, rules}
use Rattle.std.proofs.lemmas.List.{take_rest}
use Rattle.sheet_lines.proofs.Cuts.{cut_at}
use Rattle.sheet_lines.proofs.fields.cut.Goals as goal

pub returns-in_err-i : goal.returns-in_err-i
returns-in_err-i c = let e = cut_at c.args.at c.args.text.now in search (rules, e)

pub returns : goal.returns
returns c = let e = cut_at c.args.at c.args.text.now in rw (take_rest c.args.text.now (c.in_ok-i.i + 1)) (search (rules, e))
