-- When a cipher agrees with a test vector.
use Rattle.std.specs.Prelude.{◌≡◌, ℕ, true, List, length}
use Rattle.block.specs.Blocks.{Meaning}
use Rattle.hex_digits.specs.Hex.{hex_bytes}
use Rattle.kuznyechik_spec.specs.Kuznyechik.{kuznyechik}
use Rattle.magma.specs.Magma.{magma}
use Rattle.sheet_format.specs.declared.CipherKind.{CipherKind}
use Rattle.sheet_format.specs.declared.CipherKind.TheVariants.{Kuznyechik, Magma}
use Rattle.cipher_tests.specs.Entries.{VectorIn}
use Rattle.cipher_tests.specs.declared.table.Vector.{Vector}
use Rattle.cipher_tests.specs.declared.trial.Trial.{Trial}

-- `before` is a block of n bytes, and f makes `after` of it
abbrev pub Makes : ℕ → (List ℕ → List ℕ) → List ℕ → List ℕ → Type 0
Makes n f before after = (length before ≡ n) × (f before ≡ after)

-- E makes the cipher text of the plain text
abbrev pub Enciphers : Meaning → Vector → Type 0
Enciphers m v = Makes m.size m.forward (hex_bytes v.plain.now) (hex_bytes v.ciphertext.now)

-- D makes the plain text of the cipher text
abbrev pub Deciphers : Meaning → Vector → Type 0
Deciphers m v = Makes m.size m.inverse (hex_bytes v.ciphertext.now) (hex_bytes v.plain.now)

-- where the trial says so, the cipher agrees
abbrev pub Confirms : Trial → Meaning → Vector → Type 0
Confirms t m v = (t.enciphers ≡ true → Enciphers m v) × (t.deciphers ≡ true → Deciphers m v)

-- both ways
abbrev pub Agrees : Meaning → Vector → Type 0
Agrees m v = Enciphers m v × Deciphers m v

-- the cipher with the key
abbrev pub cipher_under : CipherKind → List ℕ → Meaning
cipher_under Kuznyechik key = kuznyechik key
cipher_under Magma key = magma key

-- the cipher of the vector, under its key, agrees both ways
abbrev pub Holds : Vector → Type 0
Holds v = Agrees (cipher_under v.cipher (hex_bytes v.key.now)) v

-- the vector in a line
abbrev pub HoldsIn : List ℕ → Type 0
HoldsIn line = (v : Vector) × VectorIn line v × Holds v
