-- Worked examples of Kuznyechik: those of annex A of the standard.
use Rattle.std.specs.Prelude.{◌≡◌, ℕ, List, [], ◌∷◌, map}
use Rattle.kuznyechik_spec.specs.Kuznyechik.{block_of, bytes_of, decipher, encipher, iteration_constant, round_keys, transform_l, transform_r, transform_s}

unfoldable pub annex_key : List ℕ
annex_key = bytes_of 32 0x8899aabbccddeeff0011223344556677fedcba98765432100123456789abcdef []

unfoldable pub annex_plain : List ℕ
annex_plain = block_of 0x1122334455667700ffeeddccbbaa9988

unfoldable pub annex_cipher : List ℕ
annex_cipher = block_of 0x7f679d90bebc24305a468d42b9d4edcd

pub record KuznyechikExamples : Type 0 where
  pub s : transform_s (block_of 0xffeeddccbbaa99881122334455667700) ≡ block_of 0xb66cd8887d38e8d77765aeea0c9a7efc
  pub r : transform_r (block_of 0x94000000000000000000000000000001) ≡ block_of 0xa5940000000000000000000000000000
  pub l : transform_l (block_of 0x64a59400000000000000000000000000) ≡ block_of 0xd456584dd0e3e84cc3166e4b7fa2890d
  pub constant : iteration_constant 1 ≡ block_of 0x6ea276726c487ab85d27bd10dd849401
  pub keys : round_keys annex_key
      ≡ map block_of
      (0x8899aabbccddeeff0011223344556677
      ∷ 0xfedcba98765432100123456789abcdef
      ∷ 0xdb31485315694343228d6aef8cc78c44
      ∷ 0x3d4553d8e9cfec6815ebadc40a9ffd04
      ∷ 0x57646468c44a5e28d3e59246f429f1ac
      ∷ 0xbd079435165c6432b532e82834da581b
      ∷ 0x51e640757e8745de705727265a0098b1
      ∷ 0x5a7925017b9fdd3ed72a91a22286f984
      ∷ 0xbb44e25378c73123a5f32f73cdb6e517
      ∷ 0x72e9dd7416bcf45b755dbaa88e4a4043
      ∷ [])
  pub enciphered : encipher (round_keys annex_key) annex_plain ≡ annex_cipher
  pub deciphered : decipher (round_keys annex_key) annex_cipher ≡ annex_plain
