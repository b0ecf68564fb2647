use Rattle.std.proofs.lemmas.Result.{IfOk-weaker}
use Rattle.mode_tests.proofs.Agreeing.{agrees_sealed}
use Rattle.mode_tests.proofs.run_sealed_vector.Goals as goal

pub returns-in-Kuznyechik : goal.returns-in-Kuznyechik
returns-in-Kuznyechik c = λ e.
    rw (c.in-Kuznyechik.is, ← c.in_ok-key.ensures, ← c.in_ok-tag_key.ensures)
    (agrees_sealed c.args.vector.mode _ _ _ _ c.args.vector c.in_ok-input.input c.in_ok-tables-in-Kuznyechik.tables c.in_ok-input.ensures
    c.in_ok-tables-in-Kuznyechik.ensures c.prepare-tables.ensures c.prepare-tag.ensures (c.in_ok-tables-in-Kuznyechik-2.ensures.0 (c.and.ensures.0 e).1))

pub returns : goal.returns
returns c =
    IfOk-weaker c.report_sealed-in-Magma.result _ _
    (λ v e a.
    rw (c.in-Magma.is, ← c.in_ok-key.ensures, ← c.in_ok-tag_key.ensures)
    (agrees_sealed c.args.vector.mode _ _ _ _ c.args.vector c.in_ok-input.input c.in_ok-trial-in-Magma.trial c.in_ok-input.ensures
    c.in_ok-trial-in-Magma.ensures c.prepare-cipher.ensures c.prepare-tag-in-Magma.ensures (e.0 a))) c.report_sealed-in-Magma.ensures
