use Rattle.std.proofs.Common.{vec_items, sym, subst}
use Rattle.mode_tests.specs.Agreement.{OpenedBy}
use Rattle.sheet_format.specs.declared.Mode.{Mode}
use Rattle.mode_tests.proofs.Feeding.{same_self}
use Rattle.mode_tests.proofs.trial.open.Goals as goal

pub returns-in_ok-outcome-in-Ctr : goal.returns-in_ok-outcome-in-Ctr
returns-in_ok-outcome-in-Ctr g c =
    subst
    (λ (d : Mode). OpenedBy d (g.C.BlockCipher.meaning c.args.cipher.now) c.args.feed.start.now c.args.extent.before c.args.extent.rest c.args.feed.text.now (vec_items c.in_ok-outcome-in-Ctr.outcome.bytes))
    (sym c.in-Ctr.is) (λ m e. (c.in_ok-outcome-in-Ctr.ensures.sealed m (g.T.BlockCipher.meaning c.args.tag_cipher.now) e (same_self _)).0)
