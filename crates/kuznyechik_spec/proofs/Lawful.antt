-- With round keys that are blocks the cipher is lawful, and the round keys of every key are blocks.
use Rattle.std.proofs.Common.{◌≡◌, ℕ, List, refl, subst, inr}
use Rattle.std.specs.List.{AllByRecursion}
use Rattle.block.specs.Blocks.{Block, Lawful, Meaning, Same}
use Rattle.kuznyechik_spec.specs.Kuznyechik.{kuznyechik, round_keys, with_round_keys}
use Rattle.kuznyechik_spec.proofs.Cipher.{encipher-block, decipher-block, decipher-encipher, encipher-decipher}
use Rattle.kuznyechik_spec.proofs.KeyBlocks.{round_keys-blocks}

pub lawful-blocks : (ks : List (List ℕ)) → AllByRecursion (Block 16) ks → Lawful (with_round_keys ks)
lawful-blocks ks h = record {
  sized = inr refl;
  forward-block = λ b. encipher-block ks b h;
  inverse-block = λ b. decipher-block ks b h;
  undone = λ b. decipher-encipher ks b h;
  redone = λ b. encipher-decipher ks b h;
}

pub lawful-key : (key : List ℕ) → Block 32 key → Lawful (kuznyechik key)
lawful-key key h = lawful-blocks (round_keys key) (round_keys-blocks key h)

pub same-itself : (m : Meaning) → Same m m
same-itself m = record { sizes = refl; forwards = λ b h. refl; inverses = λ b h. refl }

-- the same round keys, the same meaning
pub same_keys : (ks js : List (List ℕ)) → ks ≡ js → Same (with_round_keys ks) (with_round_keys js)
same_keys ks js e = subst (λ l. Same (with_round_keys ks) (with_round_keys l)) e (same-itself (with_round_keys ks))
