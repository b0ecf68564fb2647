use Rattle.std.proofs.Common.{refl}
use Rattle.examples.specs.KuznyechikValues.{annex_cipher, annex_key, annex_plain}
use Rattle.kuznyechik_spec.specs.Field.{multiply, multiply_terms, times_x}
use Rattle.kuznyechik_spec.specs.Kuznyechik.{add_key, block_of, bytes_of, coefficients, decipher, dot_product, encipher, feistel_round, feistel_rounds, inverse_l, inverse_r, inverse_s, iteration_constant, linear, lsx, place_of, repeated, round_keys, schedule, substitution, substitution_inverse, substitutions, transform_l, transform_r, transform_s}
use Rattle.examples.proofs.kuznyechik_examples_hold.Goals as goal

pub returns : goal.returns
unfolding annex_cipher annex_key annex_plain multiply multiply_terms times_x add_key block_of bytes_of coefficients decipher dot_product encipher feistel_round feistel_rounds inverse_l inverse_r inverse_s iteration_constant linear lsx place_of repeated round_keys schedule substitution substitution_inverse substitutions transform_l transform_r transform_s
returns c = record { s = refl; r = refl; l = refl; constant = refl; keys = refl; enciphered = refl; deciphered = refl }
