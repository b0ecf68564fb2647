use Rattle.std.proofs.Common.{codes}
use Rattle.std.proofs.lemmas.Str.Pattern.{split_text_parts}
use Rattle.mode_tests.proofs.table.first_word.Goals as goal

pub returns : goal.returns
returns c = split_text_parts (codes " ") c.args.line.now c.split_once.result c.split_once.ensures.cases
