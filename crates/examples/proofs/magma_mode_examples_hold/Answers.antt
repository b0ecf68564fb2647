-- The values, computed.
use Rattle.std.proofs.Common.{refl}
use Rattle.examples.specs.ModeValues.{narrow_text, narrow_code}
use Rattle.kuznyechik_spec.specs.Kuznyechik.{bytes_of}
use Rattle.magma.specs.Magma.{rows, t, g, composed, halves, joined_halves, key_words, round_keys, enciphered}
use Rattle.modes_spec.specs.Cbc.{chained}
use Rattle.modes_spec.specs.Ctr.{joined_with}
use Rattle.modes_spec.specs.Mac.{doubled, mac}
use Rattle.modes_spec.specs.Texts.{big_endian, joined_to}
use Rattle.examples.proofs.magma_mode_examples_hold.Goals as goal

pub returns : goal.returns
unfolding narrow_text narrow_code bytes_of rows t g composed halves joined_halves key_words round_keys enciphered chained joined_with doubled mac big_endian joined_to
returns c = record { stream = refl; key1 = refl; key2 = refl; tag = refl }
