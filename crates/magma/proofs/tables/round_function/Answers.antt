-- g by the wide table.
use Rattle.std.proofs.Common.{◌+◌, ◌%◌, ◌^◌, refl, rules}
use Rattle.magma.proofs.Wide.{g-by-entries}
use Rattle.magma.proofs.tables.round_function.Goals as goal

pub returns : goal.returns
returns c =
    g-by-entries c.wide_table-wide.result.now c.wide_table-wide.ensures c.args.k c.args.a ((c.args.a + c.args.k) % 2 ^ 32)
    c.from.result c.from-2.result c.from-3.result c.from-4.result refl (search rules) (search rules) (search rules) (search rules)
