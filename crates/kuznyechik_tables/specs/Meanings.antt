-- The meaning of a prepared Kuznyechik by tables: the cipher with its round keys, which are held as numbers.
use Rattle.std.specs.Prelude.{map}
use Rattle.block.specs.Blocks.{Meaning}
use Rattle.kuznyechik_spec.specs.Kuznyechik.{block_of, with_round_keys}
use Rattle.kuznyechik_tables.specs.declared.KuznyechikTables.{KuznyechikTables}

abbrev pub meaning_of : KuznyechikTables → Meaning
meaning_of c = with_round_keys (map block_of c.keys)
