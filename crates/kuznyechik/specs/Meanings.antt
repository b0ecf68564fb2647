-- The meaning of a prepared Kuznyechik: the cipher with its round keys.
use Rattle.block.specs.Blocks.{Meaning}
use Rattle.kuznyechik_spec.specs.Kuznyechik.{with_round_keys}
use Rattle.kuznyechik.specs.declared.Kuznyechik.{Kuznyechik}

abbrev pub meaning_of : Kuznyechik → Meaning
meaning_of c = with_round_keys c.keys.keys
