use Rattle.std.proofs.Common.{◌∙◌}
use Rattle.sheet.proofs.Searches.{starts-found}
use Rattle.sheet.proofs.kept.Kept.start_taken.Goals as goal

pub returns : goal.returns
returns c = λ bodies keeps some. c.keep_start.ensures ∙ starts-found c.args.self.now bodies c.args.start.now keeps some
