use mathlib.Core.Path.{ap, ◌∙◌}
use Rattle.kuznyechik_spec.specs.Tables.{lookup_sum}
use Rattle.kuznyechik_spec.proofs.Words.{round-word}
use Rattle.kuznyechik_tables.proofs.tables.lsx.Goals as goal

pub returns : goal.returns
returns c =
    round-word c.round_table.result.now c.round_table.ensures c.args.state c.args.key c.lookup.result
    (c.lookup.ensures ∙ ap (lookup_sum c.round_table.result.now) c.to_block.ensures)
