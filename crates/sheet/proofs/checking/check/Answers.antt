use Rattle.std.proofs.Common.{sym, subst}
use Rattle.sheet_laws.proofs.Law.{keeps-the-law}
use Rattle.sheet_laws.specs.CheckLaw.{CheckLaw}
use Rattle.sheet.proofs.checking.check.Goals as goal

pub returns-clause-law : goal.returns-clause-law
returns-clause-law c = λ _. subst (CheckLaw c.args.sheet.now) (sym c.check_in.ensures) (keeps-the-law c.args.sheet.now)
