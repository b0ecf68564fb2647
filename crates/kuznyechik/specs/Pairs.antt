-- The two blocks of a Feistel round, in the words of the standard's definitions.
use Rattle.kuznyechik_spec.specs.Kuznyechik.{halves}
use Rattle.kuznyechik_spec.specs.Kuznyechik.{Halves as HalvesOfBlocks}
use Rattle.kuznyechik.specs.declared.keys.Halves.{Halves}

abbrev pub halves_of : Halves → HalvesOfBlocks
halves_of t = halves t.left t.right
