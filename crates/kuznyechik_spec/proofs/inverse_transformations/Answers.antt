use Rattle.kuznyechik_spec.proofs.Cipher.{inverse_s-transform_s, transform_s-inverse_s}
use Rattle.kuznyechik_spec.proofs.Linear.{inverse_l-transform_l, inverse_r-transform_r, transform_l-inverse_l, transform_r-inverse_r}
use Rattle.kuznyechik_spec.proofs.inverse_transformations.Goals as goal

pub returns : goal.returns
returns c = record {
  of_s = record { undone = inverse_s-transform_s; redone = transform_s-inverse_s };
  of_r = record { undone = inverse_r-transform_r; redone = transform_r-inverse_r };
  of_l = record { undone = inverse_l-transform_l; redone = transform_l-inverse_l };
}
