-- Chaining: it does not look ahead, it makes blocks, and opening undoes it.
use Rattle.std.proofs.Common.{◌≡◌, ℕ, zero, suc, ◌+◌, ◌-◌, ◌*◌, ◌/◌, ◌%◌, ◌<◌, ◌≤◌, List, ◌∷◌, ◌++◌, length, take, sym, refl, ap, ◌∙◌, ap₂, ⊎_elim, mod-lt, mul_comm, mul-le-mul_left, mul-suc, add-one, arith}
use native.Mathlib.Nat.{mul-div_cancel_left}
use Rattle.std.proofs.lemmas.Nat.{div-add-mod'}
use Rattle.std.proofs.ByRecursion.{All-append}
use Rattle.std.proofs.lemmas.List.{length-append, length-replicate, take_at, take_all}
use Rattle.block.specs.Blocks.{Block, Meaning, Lawful, Bytes}
use Rattle.block.proofs.Bytes.{bytes-xor, length-xor, xor-self-list, xor-list-comm}
use Rattle.modes_spec.specs.Texts.{◌⊕◌, block_at, filled, zeros}
use Rattle.modes_spec.specs.Cbc.{chained, cbc_blocks, cbc_sealed, register_at, opened_block, opened_blocks, cbc_opened}
use Rattle.modes_spec.proofs.Texts.{bytes-block, length-block, block-append, joined_same, length-joined, joined-blocks, block-joined}

-- n is not 0
pub size-pos : (m : Meaning) → Lawful m → 0 < m.size
size-pos m l = ⊎_elim (λ (e : m.size ≡ 8). omega arith) (λ (e : m.size ≡ 16). omega arith) l.sized

-- the exclusive or of two blocks is a block
pub block-xor : (n : ℕ) (a b : List ℕ) → Block n a → Block n b → Block n (a ⊕ b)
block-xor n a b ha hb = record {
  long = length-xor a b ∙ omega (arith, ha.long, hb.long);
  bytes = bytes-xor a b ha.bytes hb.bytes;
}

-- a whole block of a text of bytes is a block
pub block-whole : (n : ℕ) (text : List ℕ) (i : ℕ) → Bytes text → n * i + n ≤ length text → Block n (block_at n text i)
block-whole n text i h l = record { long = length-block n text i l; bytes = bytes-block n text i h }

-- C_i depends on the blocks up to P_i alone
pub chained_append : (m : Meaning) (iv xs ys : List ℕ) (i : ℕ) → m.size * i ≤ length xs → chained m iv (xs ++ ys) i ≡ chained m iv xs i
unfolding chained
chained_append m iv xs ys zero h = refl
chained_append m iv xs ys (suc i) h =
    let e : m.size * suc i ≡ m.size * i + m.size = mul-suc m.size i in
    ap₂ (λ (a b : List ℕ). m.forward (a ⊕ b)) (block-append m.size xs ys i (omega arith)) (chained_append m iv xs ys i (omega arith))

pub chained-block : (m : Meaning) (iv text : List ℕ) (i : ℕ) → Lawful m → Block m.size iv → Bytes text → m.size * i ≤ length text → Block m.size (chained m iv text i)
unfolding chained
chained-block m iv text zero l b h k = b
chained-block m iv text (suc i) l b h k =
    let e : m.size * suc i ≡ m.size * i + m.size = mul-suc m.size i in
    l.forward-block _ (block-xor m.size _ _ (block-whole m.size text i h (omega arith)) (chained-block m iv text i l b h (omega arith)))

-- C_1 to C_q of a longer text
pub cbc-append : (m : Meaning) (iv xs ys : List ℕ) (q : ℕ) → m.size * q ≤ length xs → cbc_blocks m iv (xs ++ ys) q ≡ cbc_blocks m iv xs q
cbc-append m iv xs ys q h =
    joined_same (λ i. chained m iv (xs ++ ys) (suc i)) (λ i. chained m iv xs (suc i)) q
    (λ i l. let s : m.size * suc i ≤ m.size * q = mul-le-mul_left m.size (omega arith) in chained_append m iv xs ys (suc i) (omega arith))

module _ (m : Meaning) (iv text : List ℕ) (q : ℕ) (l : Lawful m) (b : Block m.size iv) (h : Bytes text) (k : m.size * q ≤ length text) where
  link : (i : ℕ) → i < q → Block m.size (chained m iv text (suc i))
  link i lt =
      let s : m.size * suc i ≤ m.size * q = mul-le-mul_left m.size (omega arith) in
      chained-block m iv text (suc i) l b h (omega arith)

  pub length-cbc : length (cbc_blocks m iv text q) ≡ m.size * q
  length-cbc = length-joined m.size (λ i. chained m iv text (suc i)) q (λ i lt. (link i lt).long)

  cipher-block : (i : ℕ) → i < q → block_at m.size (cbc_blocks m iv text q) i ≡ chained m iv text (suc i)
  cipher-block i lt = block-joined m.size (λ j. chained m iv text (suc j)) q i (λ j lt. (link j lt).long) lt

  register : (i : ℕ) → i < q → register_at m.size iv (cbc_blocks m iv text q) i ≡ chained m iv text i
  unfolding chained
  register zero lt = refl
  register (suc i) lt = cipher-block i (omega arith)

  opened : (i : ℕ) → i < q → opened_block m iv (cbc_blocks m iv text q) i ≡ block_at m.size text i
  unfolding chained
  opened i lt =
      let s : m.size * suc i ≤ m.size * q = mul-le-mul_left m.size (omega arith) in
      let e : m.size * suc i ≡ m.size * i + m.size = mul-suc m.size i in
      let p : Block m.size (block_at m.size text i) = block-whole m.size text i h (omega arith) in
      let c : Block m.size (chained m iv text i) = chained-block m iv text i l b h (omega arith) in
      ap₂ (λ (x y : List ℕ). m.inverse x ⊕ y) (cipher-block i lt) (register i lt)
      ∙ ap (λ (x : List ℕ). x ⊕ chained m iv text i) (l.undone _ (block-xor m.size _ _ p c))
      ∙ xor-list-comm (block_at m.size text i ⊕ chained m iv text i) (chained m iv text i)
      ∙ ap (λ (x : List ℕ). chained m iv text i ⊕ x) (xor-list-comm (block_at m.size text i) (chained m iv text i))
      ∙ xor-self-list (chained m iv text i) (block_at m.size text i) (c.long ∙ sym p.long)

  -- the blocks C_1 to C_q opened are P_1 to P_q
  pub opened-blocks : opened_blocks m iv (cbc_blocks m iv text q) q ≡ take (m.size * q) text
  opened-blocks = joined_same (opened_block m iv (cbc_blocks m iv text q)) (block_at m.size text) q opened ∙ joined-blocks m.size text q

-- ---- filling

pub length-filled : (n : ℕ) (text : List ℕ) → 0 < n → length (filled n text) ≡ n * (length text / n + 1)
length-filled n text pos =
    let r : length text % n < n = mod-lt (length text) pos in
    let d : length text / n * n + length text % n ≡ length text = div-add-mod' (length text) n in
    let c : length text / n * n ≡ n * (length text / n) = mul_comm (length text / n) n in
    let s : n * suc (length text / n) ≡ n * (length text / n) + n = mul-suc n (length text / n) in
    let z : length (zeros (n - 1 - length text % n)) ≡ n - 1 - length text % n = length-replicate (n - 1 - length text % n) 0 in
    length-append text (128 ∷ zeros (n - 1 - length text % n)) ∙ rw (add-one (length text / n)) (omega arith)

pub zeros-bytes : (k : ℕ) → Bytes (zeros k)
zeros-bytes zero = tt
zeros-bytes (suc k) = (omega arith, zeros-bytes k)

pub bytes-filled : (n : ℕ) (text : List ℕ) → Bytes text → Bytes (filled n text)
bytes-filled n text h =
    All-append (λ x. x < 256) text (128 ∷ zeros (n - 1 - length text % n)) h (omega arith, zeros-bytes (n - 1 - length text % n))

module _ (m : Meaning) (iv text : List ℕ) (l : Lawful m) (b : Block m.size iv) (h : Bytes text) where
  q : ℕ
  q = length text / m.size + 1

  whole : length (filled m.size text) ≡ m.size * (length text / m.size + 1)
  whole = length-filled m.size text (size-pos m l)

  pub sealed-length : length (cbc_sealed m iv text) ≡ m.size * (length text / m.size + 1)
  sealed-length = length-cbc m iv (filled m.size text) (length text / m.size + 1) l b (bytes-filled m.size text h) (omega (arith, whole))

  pub opens : cbc_opened m iv (cbc_sealed m iv text) ≡ filled m.size text
  opens =
      ap (λ (k : ℕ). opened_blocks m iv (cbc_sealed m iv text) k)
      (ap (λ (k : ℕ). k / m.size) sealed-length ∙ mul-div_cancel_left (length text / m.size + 1) (size-pos m l))
      ∙ opened-blocks m iv (filled m.size text) (length text / m.size + 1) l b (bytes-filled m.size text h) (omega (arith, whole))
      ∙ take_all (m.size * (length text / m.size + 1)) (filled m.size text) (omega (arith, whole))

  pub comes-off : take (length text) (filled m.size text) ≡ text
  comes-off = take_at text (128 ∷ zeros (m.size - 1 - length text % m.size)) (length text) refl
