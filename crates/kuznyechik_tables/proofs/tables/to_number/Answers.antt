use Rattle.std.proofs.Common.{◌∙◌, arith}
use Rattle.kuznyechik_spec.proofs.Words.{weighted-number}
use Rattle.kuznyechik_tables.proofs.tables.to_number.Goals as goal

pub returns : goal.returns
returns c = c.from_be_bytes.ensures ∙ weighted-number c.args.block (omega arith)
