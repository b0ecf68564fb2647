-- D with the inverse of L of the round keys: each round adds its key, and then takes the inverses of S and of L.
use Rattle.std.proofs.Common.{◌≡◌, ℕ, zero, suc, ◌<◌, true, not, ◌&&◌, T, eqb, List, [], ◌∷◌, map, length, get_or, drop, sym, refl, ap, ◌∙◌, subst, ap₂, arith}
use Rattle.std.specs.List.{AllByRecursion}
use Rattle.std.proofs.ByRecursion.{All-drop}
use Rattle.std.proofs.lemmas.Bool.{and_parts, eq-eqb, eqb-true}
use Rattle.block.specs.Blocks.{Block}
use Rattle.kuznyechik_spec.specs.Kuznyechik.{add_key, block_of, decipher, inverse_l, inverse_s}
use Rattle.kuznyechik_spec.specs.Tables.{are_inverses, inverse_number, number}
use Rattle.kuznyechik_spec.proofs.Cipher.{decipher-block, inverse_s-block}
use Rattle.kuznyechik_spec.proofs.KeyBlocks.{block_of-block}
use Rattle.kuznyechik_spec.proofs.Linear.{inverse_l-block, inverse_l-xor}
use Rattle.kuznyechik_spec.proofs.Rounds.{decipher-last, decipher-more}
use Rattle.kuznyechik_spec.proofs.Words.{are-blocks, block_of-number, get_or-blocks, length-blocks}

-- a key of the second row
inverse-at : (ks ms : List ℕ) → are_inverses ks ms ≡ true → (i : ℕ) → i < length ks → block_of (get_or ms i 0) ≡ inverse_l (block_of (get_or ks i 0))
unfolding are_inverses inverse_number
inverse-at [] ms e i h = absurd (omega arith)
inverse-at (k ∷ ks) [] e i h = absurd (subst (λ x. T (not x)) e tt)
inverse-at (k ∷ ks) (m ∷ ms) e zero h =
    ap block_of (eqb-true m (inverse_number (block_of k)) (and_parts (eqb m (inverse_number (block_of k))) (are_inverses ks ms) e).0)
    ∙ block_of-number (inverse_l (block_of k)) (inverse_l-block (block_of k) (block_of-block k))
inverse-at (k ∷ ks) (m ∷ ms) e (suc i) h =
    inverse-at ks ms (and_parts (eqb m (inverse_number (block_of k))) (are_inverses ks ms) e).1 i (omega arith)

-- the rows that are made of blocks
pub inverses-of : (rows : List (List ℕ)) → AllByRecursion (Block 16) rows → are_inverses (map (number 0) rows) (map inverse_number rows) ≡ true
unfolding are_inverses
inverses-of [] h = refl
inverses-of (r ∷ rs) h =
    ap₂ ◌&&◌ (eq-eqb (inverse_number r) (inverse_number (block_of (number 0 r))) (ap inverse_number (sym (block_of-number r h.0)))) (inverses-of rs h.1)

module _ (ks ms : List ℕ) (tied : are_inverses ks ms ≡ true) (a : List ℕ) (block : Block 16 a) where
  -- D by the round keys from i on
  abbrev pub from : ℕ → List ℕ
  from i = decipher (drop i (map block_of ks)) a

  from_block : (i : ℕ) → Block 16 (from i)
  from_block i = decipher-block (drop i (map block_of ks)) a (All-drop (Block 16) i (map block_of ks) (are-blocks ks)) block

  -- the key goes through the inverse of L
  through : (i : ℕ) → i < length ks → (b : List ℕ) → Block 16 b → add_key (block_of (get_or ms i 0)) (inverse_l b) ≡ inverse_l (add_key (get_or (map block_of ks) i []) b)
  through i h b hb =
      ap (λ k. add_key k (inverse_l b)) (inverse-at ks ms tied i h)
      ∙ sym (inverse_l-xor (block_of (get_or ks i 0)) b (block_of-block (get_or ks i 0)) hb)
      ∙ ap (λ k. inverse_l (add_key k b)) (sym (get_or-blocks ks i h))

  pub inverse-first : (i : ℕ) → length ks ≡ suc i → (b : List ℕ) → b ≡ inverse_l a → add_key (block_of (get_or ms i 0)) b ≡ inverse_l (from i)
  inverse-first i n b e =
      ap (add_key (block_of (get_or ms i 0))) e ∙ through i (omega arith) a block
      ∙ ap inverse_l (decipher-last (map block_of ks) i a (length-blocks ks ∙ n))

  pub inverse-more : (i : ℕ) → suc i < length ks → (v b : List ℕ) → v ≡ inverse_l (from (suc i)) → b ≡ inverse_l (inverse_s v)
      → add_key (block_of (get_or ms i 0)) b ≡ inverse_l (from i)
  inverse-more i h v b e is =
      let x : Block 16 (inverse_s (inverse_l (from (suc i)))) = inverse_s-block (inverse_l (from (suc i))) (inverse_l-block (from (suc i)) (from_block (suc i))) in
      ap (add_key (block_of (get_or ms i 0))) (is ∙ ap (λ w. inverse_l (inverse_s w)) e)
      ∙ through i (omega arith) (inverse_s (inverse_l (from (suc i)))) x
      ∙ ap inverse_l (decipher-more (map block_of ks) i a (subst (λ n. suc i < n) (sym (length-blocks ks)) h))

  -- the last round adds K1 itself
  pub inverse-last : 1 < length ks → (v : List ℕ) → v ≡ inverse_l (from 1) → add_key (block_of (get_or ks 0 0)) (inverse_s v) ≡ decipher (map block_of ks) a
  inverse-last h v e =
      ap₂ add_key (sym (get_or-blocks ks 0 (omega arith))) (ap inverse_s e)
      ∙ decipher-more (map block_of ks) 0 a (subst (λ n. 1 < n) (sym (length-blocks ks)) h)
