use Rattle.cipher_tests.proofs.run_vector.Goals as goal

pub returns-in_ok-tables-in-Kuznyechik : goal.returns-in_ok-tables-in-Kuznyechik
returns-in_ok-tables-in-Kuznyechik c = λ e.
    rw (c.in-Kuznyechik.is, ← c.in_ok-key.ensures) (c.in_ok-tables-in-Kuznyechik.ensures (c.and.ensures.0 e).1 _ c.prepare-tables.ensures)
