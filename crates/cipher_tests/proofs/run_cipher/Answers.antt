use Rattle.std.proofs.Common.{rules}
use Rattle.std.proofs.lemmas.Result.{IfOk-weaker}
use Rattle.cipher_tests.proofs.Trials.{agrees_from}
use Rattle.cipher_tests.proofs.run_cipher.Goals as goal

pub returns : goal.returns
returns g c =
    IfOk-weaker c.report.result _ _
    (λ v e a m s. agrees_from c.in_ok-trial.trial _ m c.args.vector s (search rules) (e.0 a)) c.report.ensures
