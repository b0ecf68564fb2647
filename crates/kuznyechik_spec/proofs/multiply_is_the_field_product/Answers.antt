-- The product in the field is the remainder of the product of polynomials.
use Rattle.kuznyechik_spec.proofs.FieldLaw.{multiply-is-product}
use Rattle.kuznyechik_spec.proofs.multiply_is_the_field_product.Goals as goal

pub returns : goal.returns
returns c = multiply-is-product
