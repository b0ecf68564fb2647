use Rattle.std.proofs.Common.{IfOk, sym, subst}
use Rattle.mode_tests.specs.Agreement.{sealed_by}
use Rattle.mode_tests.specs.Runs.{SealedAs}
use Rattle.sheet_format.specs.declared.Mode.{Mode}
use Rattle.mode_tests.proofs.trial.seal.Goals as goal

pub returns-in-Ctr : goal.returns-in-Ctr
returns-in-Ctr g c = record {
  sealed =
      subst
      (λ (d : Mode). IfOk c.run.result (SealedAs (g.C.BlockCipher.meaning c.args.cipher.now) (g.T.BlockCipher.meaning c.args.tag_cipher.now) (λ m. sealed_by d m c.args.feed.start.now c.args.feed.text.now)))
      (sym c.in-Ctr.is) c.run.ensures.sealed;
  same = c.run.ensures.same;
  tag_same = c.run.ensures.tag_same;
}

pub returns-in-Cbc : goal.returns-in-Cbc
returns-in-Cbc g c = record {
  sealed =
      subst
      (λ (d : Mode). IfOk c.seal.result (SealedAs (g.C.BlockCipher.meaning c.args.cipher.now) (g.T.BlockCipher.meaning c.args.tag_cipher.now) (λ m. sealed_by d m c.args.feed.start.now c.args.feed.text.now)))
      (sym c.in-Cbc.is) c.seal.ensures.sealed;
  same = c.seal.ensures.same;
  tag_same = c.seal.ensures.tag_same;
}
