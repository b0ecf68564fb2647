-- What trials show of ciphers that mean the same.
use Rattle.std.proofs.Common.{◌≡◌, ℕ, ◌<◌, true, List, [], ◌∷◌, length, unwrap_or, sym, ◌∙◌, arith, tests}
use Rattle.std.specs.List.{AllByRecursion}
use Rattle.hex_digits.specs.Hex.{hex_bytes, hex_value}
use Rattle.block.specs.Blocks.{Block, Meaning, Same}
use Rattle.cipher_tests.specs.Agreement.{Agrees, Confirms, Deciphers, Enciphers}
use Rattle.cipher_tests.specs.declared.table.Vector.{Vector}
use Rattle.cipher_tests.specs.declared.trial.Trial.{Trial}

digit-small : (x : ℕ) → unwrap_or (hex_value x) 0 < 16
digit-small x = grind (arith, tests)

bytes_small : (xs : List ℕ) → AllByRecursion (λ x. x < 256) (hex_bytes xs)
bytes_small [] = tt
bytes_small (x ∷ []) = tt
bytes_small (x ∷ y ∷ zs) = (omega (arith, digit-small x, digit-small y), bytes_small zs)

-- a block is written in the digits
block-from : (n : ℕ) (xs : List ℕ) → length (hex_bytes xs) ≡ n → Block n (hex_bytes xs)
block-from n xs e = record { long = e; bytes = bytes_small xs }

-- ciphers that mean the same agree with the same vectors
enciphers-same : (m o : Meaning) (v : Vector) → Same m o → Enciphers m v → Enciphers o v
enciphers-same m o v s h = (h.0 ∙ s.sizes, sym (s.forwards (hex_bytes v.plain.now) (block-from m.size v.plain.now h.0)) ∙ h.1)

deciphers-same : (m o : Meaning) (v : Vector) → Same m o → Deciphers m v → Deciphers o v
deciphers-same m o v s h =
    (h.0 ∙ s.sizes, sym (s.inverses (hex_bytes v.ciphertext.now) (block-from m.size v.ciphertext.now h.0)) ∙ h.1)

-- the cipher as it was before its calls
pub deciphers-before : (m o : Meaning) (v : Vector) → Same m o → Deciphers o v → Deciphers m v
deciphers-before m o v s h =
    let e : length (hex_bytes v.ciphertext.now) ≡ m.size = h.0 ∙ sym s.sizes in
    (e, s.inverses (hex_bytes v.ciphertext.now) (block-from m.size v.ciphertext.now e) ∙ h.1)

-- a trial that shows no difference
pub agrees_from : (t : Trial) (m o : Meaning) (v : Vector) → Same m o → Confirms t m v → (t.enciphers ≡ true) × (t.deciphers ≡ true) → Agrees o v
agrees_from t m o v s h p = (enciphers-same m o v s (h.0 p.0), deciphers-same m o v s (h.1 p.1))
