use Rattle.kuznyechik_spec.specs.Field.{times_x, multiply_terms, multiply}
use Rattle.kuznyechik_spec.specs.Kuznyechik.{dot_product, coefficients, linear, inverse_r, repeated, inverse_l}
use Rattle.kuznyechik_spec.specs.Tables.{number, zeros, byte_at}
use Rattle.kuznyechik_spec.proofs.Tested.{inverse-tested}
use Rattle.kuznyechik_tables.proofs.tables.inverse_table.Goals as goal

pub returns : goal.returns
unfolding times_x multiply_terms multiply dot_product coefficients linear inverse_r repeated inverse_l number zeros byte_at
returns c = inverse-tested _ tt
