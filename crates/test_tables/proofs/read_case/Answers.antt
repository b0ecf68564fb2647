use Rattle.std.proofs.Common.{codes, rules}
use Rattle.std.proofs.lemmas.Str.Pattern.{split_text_parts}
use Rattle.test_tables.proofs.read_case.Goals as goal

pub returns-in-None : goal.returns-in-None
returns-in-None c =
    let p = split_text_parts (codes " | ") c.args.line.now c.split_once.result c.split_once.ensures.cases in search (rules, p)
