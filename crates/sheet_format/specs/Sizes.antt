-- The sizes that cipher, mode and length give: block length, START digits, blocks, sealed length.
use Rattle.std.specs.Prelude.{ℕ, ◌+◌, ◌-◌, ◌*◌, ◌/◌, cond, Some, None, Option, ◌==◌}
use Rattle.sheet_format.specs.declared.CipherKind.{CipherKind}
use Rattle.sheet_format.specs.declared.CipherKind.TheVariants.{Kuznyechik, Magma}
use Rattle.sheet_format.specs.declared.Mode.{Mode}
use Rattle.sheet_format.specs.declared.Mode.TheVariants.{Ctr, Cbc}

-- the block length n, in bytes
abbrev pub block_length : CipherKind → ℕ
block_length Kuznyechik = 16
block_length Magma = 8

-- the cipher that has a block length
abbrev pub cipher_with : ℕ → Option CipherKind
cipher_with n = cond (n == 8) (Some Magma) (cond (n == 16) (Some Kuznyechik) None)

-- START is n/2 bytes in ctr and n bytes in cbc, two digits a byte
abbrev pub start_digits : Mode → ℕ → ℕ
start_digits Ctr n = n
start_digits Cbc n = 2 * n

-- ctr: L/n rounded up; cbc: every body is filled up, also a whole one, so L div n + 1
abbrev pub blocks_of : Mode → ℕ → ℕ → ℕ
blocks_of Ctr n len = (len + (n - 1)) / n
blocks_of Cbc n len = len / n + 1

-- the bytes of an enciphered body
abbrev pub sealed_length : Mode → ℕ → ℕ → ℕ
sealed_length Ctr n len = len
sealed_length Cbc n len = n * blocks_of Cbc n len
