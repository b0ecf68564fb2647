-- The values, computed.
use Rattle.std.proofs.Common.{refl}
use Rattle.examples.specs.KuznyechikValues.{annex_key}
use Rattle.examples.specs.ModeValues.{wide_text, wide_code}
use Rattle.kuznyechik_spec.specs.Field.{multiply, multiply_terms, times_x}
use Rattle.kuznyechik_spec.specs.Kuznyechik.{add_key, block_of, bytes_of, coefficients, dot_product, encipher, feistel_round, feistel_rounds, iteration_constant, linear, lsx, repeated, round_keys, schedule, substitution, substitutions, transform_l, transform_r, transform_s}
use Rattle.modes_spec.specs.Cbc.{chained}
use Rattle.modes_spec.specs.Ctr.{joined_with}
use Rattle.modes_spec.specs.Mac.{doubled, mac}
use Rattle.modes_spec.specs.Texts.{big_endian, joined_to}
use Rattle.examples.proofs.kuznyechik_mode_examples_hold.Goals as goal

pub returns : goal.returns
unfolding annex_key wide_text wide_code multiply multiply_terms times_x add_key block_of bytes_of coefficients dot_product encipher feistel_round feistel_rounds iteration_constant linear lsx repeated round_keys schedule substitution substitutions transform_l transform_r transform_s chained joined_with doubled mac big_endian joined_to
returns c = record { stream = refl; key1 = refl; key2 = refl; tag = refl }
