-- The words of a sheet for its ciphers and modes.
use Rattle.std.specs.Prelude.{ℕ, List, codes}
use Rattle.sheet_format.specs.declared.CipherKind.{CipherKind}
use Rattle.sheet_format.specs.declared.CipherKind.TheVariants.{Kuznyechik, Magma}
use Rattle.sheet_format.specs.declared.Mode.{Mode}
use Rattle.sheet_format.specs.declared.Mode.TheVariants.{Ctr, Cbc}

abbrev pub cipher_word : CipherKind → List ℕ
cipher_word Kuznyechik = codes "kuz"
cipher_word Magma = codes "magma"

abbrev pub mode_word : Mode → List ℕ
mode_word Ctr = codes "ctr"
mode_word Cbc = codes "cbc"
