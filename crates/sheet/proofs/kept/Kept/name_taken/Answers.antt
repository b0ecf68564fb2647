use Rattle.std.proofs.Common.{◌∙◌}
use Rattle.sheet.proofs.Searches.{names-found}
use Rattle.sheet.proofs.kept.Kept.name_taken.Goals as goal

pub returns : goal.returns
returns c = λ bodies keeps. c.keep_name.ensures ∙ names-found c.args.self.now bodies c.args.name.now keeps
