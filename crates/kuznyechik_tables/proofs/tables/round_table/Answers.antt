use Rattle.kuznyechik_spec.specs.Field.{times_x, multiply_terms, multiply}
use Rattle.kuznyechik_spec.specs.Kuznyechik.{dot_product, coefficients, linear, transform_r, repeated, transform_l, substitutions}
use Rattle.kuznyechik_spec.specs.Tables.{number, zeros, byte_at}
use Rattle.kuznyechik_spec.proofs.Tested.{round-tested}
use Rattle.kuznyechik_tables.proofs.tables.round_table.Goals as goal

pub returns : goal.returns
unfolding times_x multiply_terms multiply dot_product coefficients linear transform_r repeated transform_l substitutions number zeros byte_at
returns c = round-tested _ tt
