-- A cipher is the one that has its block length.
use Rattle.std.proofs.Common.{◌≡◌, ℕ, Some, Ok, Result, refl, ap, ◌∙◌}
use Rattle.std.specs.Option.{ok_or}
use Rattle.sheet_format.specs.Sizes.{block_length, cipher_with}
use Rattle.sheet_format.specs.declared.CipherKind.{CipherKind}
use Rattle.sheet_format.specs.declared.CipherKind.TheVariants.{Kuznyechik, Magma}
use Rattle.sheet_format.specs.declared.NoCipher.{NoCipher}

pub cipher-known : (c : CipherKind) → cipher_with (block_length c) ≡ Some c
cipher-known Kuznyechik = refl
cipher-known Magma = refl

-- the cipher that a conversion finds is the one whose block length it was given
pub kind-known : (n : ℕ) (kind c : CipherKind) (r : Result CipherKind NoCipher) → r ≡ ok_or (cipher_with n) (record {}) → r ≡ Ok kind
    → n ≡ block_length c → kind ≡ c
kind-known n kind c r made found h =
    let p : cipher_with n ≡ Some c = ap cipher_with h ∙ cipher-known c in
    let q : r ≡ Ok c = rw p at made in
    cc
