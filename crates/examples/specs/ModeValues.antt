-- Worked examples of the modes: those of annex A of GOST R 34.13-2015 for ctr and the MAC, with its subkeys.
use Rattle.std.specs.Prelude.{◌≡◌, ℕ, List, []}
use Rattle.kuznyechik_spec.specs.Kuznyechik.{bytes_of, kuznyechik}
use Rattle.magma.specs.Magma.{magma}
use Rattle.modes_spec.specs.Ctr.{ctr}
use Rattle.modes_spec.specs.Mac.{mac, subkey1, subkey2}
use Rattle.examples.specs.KuznyechikValues.{annex_key}
use Rattle.examples.specs.MagmaValues.{example_key}

-- the texts of the examples, four blocks each
unfoldable pub wide_text : List ℕ
wide_text = bytes_of 64 0x1122334455667700ffeeddccbbaa998800112233445566778899aabbcceeff0a112233445566778899aabbcceeff0a002233445566778899aabbcceeff0a0011 []

unfoldable pub narrow_text : List ℕ
narrow_text = bytes_of 32 0x92def06b3c130a59db54c704f8189d204a98fb2e67a8024c8912409b17b57e41 []

unfoldable pub wide_code : List ℕ
wide_code = bytes_of 64 0xf195d8bec10ed1dbd57b5fa240bda1b885eee733f6a13e5df33ce4b33c45dee4a5eae88be6356ed3d5e877f13564a3a5cb91fab1f20cbab6d1c6d15820bdba73 []

unfoldable pub narrow_code : List ℕ
narrow_code = bytes_of 32 0x4e98110c97b7b93c3e250d93d6e85d69136d868807b2dbef568eb680ab52a12d []

pub record KuznyechikModeExamples : Type 0 where
  pub stream : ctr (kuznyechik annex_key) (bytes_of 8 0x1234567890abcef0 []) wide_text ≡ wide_code
  pub key1 : subkey1 (kuznyechik annex_key) ≡ bytes_of 16 0x297d82bc4d39e3ca0de0573298151dc7 []
  pub key2 : subkey2 (kuznyechik annex_key) ≡ bytes_of 16 0x52fb05789a73c7941bc0ae65302a3b8e []
  pub tag : mac (kuznyechik annex_key) wide_text ≡ bytes_of 16 0x336f4d296059fbe34ddeb35b37749c67 []

pub record MagmaModeExamples : Type 0 where
  pub stream : ctr (magma example_key) (bytes_of 4 0x12345678 []) narrow_text ≡ narrow_code
  pub key1 : subkey1 (magma example_key) ≡ bytes_of 8 0x5f459b3342521424 []
  pub key2 : subkey2 (magma example_key) ≡ bytes_of 8 0xbe8b366684a42848 []
  pub tag : mac (magma example_key) narrow_text ≡ bytes_of 8 0x154e72102030c5bb []
