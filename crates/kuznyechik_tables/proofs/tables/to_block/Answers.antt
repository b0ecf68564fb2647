use mathlib.Core.Path.{◌∙◌}
use Rattle.kuznyechik_spec.proofs.Words.{parts-block_of}
use Rattle.kuznyechik_tables.proofs.tables.to_block.Goals as goal

pub returns : goal.returns
returns c = c.to_be_bytes.ensures ∙ parts-block_of c.args.number
