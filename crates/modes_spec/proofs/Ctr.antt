-- Joining with a keystream, byte by byte, and ctr.
use Rattle.std.proofs.Common.{◌≡◌, ℕ, zero, suc, ◌+◌, ◌-◌, ◌*◌, ◌/◌, ◌%◌, ◌^◌, ◌<◌, ◌≤◌, ◌⊎◌, List, [], ◌∷◌, ◌++◌, length, get_or, take, drop, sym, refl, ap, ◌∙◌, ap₂, ⊎_elim, add_assoc, mod-lt, mul_comm, mul-zero, mul-suc, arith, take-add}
use lib.Bits.{bit_xor, xor_comm}
use Rattle.std.proofs.lemmas.Nat.{div-add-mod', div-mul-add, mod-mul-add}
use Rattle.std.proofs.ByRecursion.{All-append}
use Rattle.std.proofs.lemmas.List.{length-append, length-take, take_at, drop_at, take_all, drop_all, drop_more}
use Rattle.std.proofs.lemmas.Bool.{cases_lt}
use Rattle.block.specs.Blocks.{Block, Meaning, Lawful}
use Rattle.block.proofs.Bytes.{xor-twice}
use Rattle.modes_spec.specs.Texts.{◌⊕◌, block_at, blocks_in, joined_to, big_endian}
use Rattle.modes_spec.specs.Ctr.{joined_with, counter_block, counter_stream}
use Rattle.modes_spec.proofs.Numbers.{length-big_endian, bytes-big_endian, same-from-big_endian}

-- ---- a keystream by its bytes

-- the byte of the keystream at place k
abbrev byte_at : ℕ → (ℕ → List ℕ) → ℕ → ℕ
byte_at n ks k = get_or (ks (k / n)) (k % n) 0

-- a text that stands at place k joined with bytes
unfoldable pub joined_bytes : (ℕ → ℕ) → ℕ → List ℕ → List ℕ
joined_bytes f k [] = []
joined_bytes f k (x ∷ xs) = bit_xor x (f k) ∷ joined_bytes f (k + 1) xs

bytes-more : (f : ℕ → ℕ) (k : ℕ) (xs ys : List ℕ) → joined_bytes f k (xs ++ ys) ≡ joined_bytes f k xs ++ joined_bytes f (k + length xs) ys
unfolding joined_bytes
bytes-more f k [] ys = ap (λ (i : ℕ). joined_bytes f i ys) (omega arith)
bytes-more f k (x ∷ xs) ys =
    ap (λ l. bit_xor x (f k) ∷ l)
    (bytes-more f (k + 1) xs ys ∙ ap (λ (i : ℕ). joined_bytes f (k + 1) xs ++ joined_bytes f i ys) (omega arith))

length-bytes : (f : ℕ → ℕ) (k : ℕ) (xs : List ℕ) → length (joined_bytes f k xs) ≡ length xs
unfolding joined_bytes
length-bytes f k [] = refl
length-bytes f k (x ∷ xs) = ap suc (length-bytes f (k + 1) xs)

xor-back : (x k : ℕ) → bit_xor (bit_xor x k) k ≡ x
xor-back x k = xor_comm (bit_xor x k) k ∙ ap (bit_xor k) (xor_comm x k) ∙ xor-twice k x

bytes-twice : (f : ℕ → ℕ) (k : ℕ) (xs : List ℕ) → joined_bytes f k (joined_bytes f k xs) ≡ xs
unfolding joined_bytes
bytes-twice f k [] = refl
bytes-twice f k (x ∷ xs) = ap₂ (λ y l. y ∷ l) (xor-back x (f k)) (bytes-twice f (k + 1) xs)

-- within one block of the keystream
bytes_run : (n : ℕ) (ks : ℕ → List ℕ) (b u : ℕ) (run : List ℕ) → u + length run ≤ n → length (ks b) ≡ n → 0 < n
    → joined_bytes (byte_at n ks) (n * b + u) run ≡ run ⊕ drop u (ks b)
unfolding joined_bytes
bytes_run n ks b u [] h l pos = refl
bytes_run n ks b u (x ∷ run) h l pos =
    let lt : u < n = omega arith in
    let c : n * b ≡ b * n = mul_comm n b in
    let d : (n * b + u) / n ≡ b = ap (λ (k : ℕ). (k + u) / n) c ∙ div-mul-add b n u lt in
    let r : (n * b + u) % n ≡ u = ap (λ (k : ℕ). (k + u) % n) c ∙ mod-mul-add b n u lt in
    let here : byte_at n ks (n * b + u) ≡ get_or (ks b) u 0 = ap₂ (λ (i j : ℕ). get_or (ks i) j 0) d r in
    ap₂ (λ (y : ℕ) (zs : List ℕ). bit_xor x y ∷ zs) here (ap (λ (k : ℕ). joined_bytes (byte_at n ks) k run) (add_assoc (n * b) u 1) ∙ bytes_run n ks b (u + 1) run (omega arith) l pos)
    ∙ ap (λ (zs : List ℕ). (x ∷ run) ⊕ zs) (sym (drop_more (ks b) u 0 (omega arith)))

module _ (n : ℕ) (ks : ℕ → List ℕ) (pos : 0 < n) (long : (i : ℕ) → length (ks i) ≡ n) where
  blocks-bytes : (text : List ℕ) (q : ℕ) → joined_to (λ i. block_at n text i ⊕ ks i) q ≡ joined_bytes (byte_at n ks) 0 (take (n * q) text)
  unfolding joined_to joined_bytes
  blocks-bytes text zero = ap (λ (k : ℕ). joined_bytes (byte_at n ks) 0 (take k text)) (sym (mul-zero n))
  blocks-bytes text (suc q) =
      let front : List ℕ = take (n * q) text in
      let last : List ℕ = block_at n text q in
      let parts : take (n * suc q) text ≡ front ++ last = ap (λ (k : ℕ). take k text) (mul-suc n q) ∙ take-add (n * q) n text in
      let short : length last ≤ n = simp length-take (omega arith) in
      let run : joined_bytes (byte_at n ks) (length front) last ≡ last ⊕ ks q =
      ⊎_elim
      (λ (lt : length text < n * q).
      let none : last ≡ [] = ap (take n) (drop_all (n * q) text (omega arith)) ∙ take_all n [] (omega arith) in
      ap (joined_bytes (byte_at n ks) (length front)) none ∙ ap (λ (a : List ℕ). a ⊕ ks q) (sym none))
      (λ (ge : n * q ≤ length text).
      let f : length front ≡ n * q + 0 = simp length-take (omega arith) in
      ap (λ (k : ℕ). joined_bytes (byte_at n ks) k last) f ∙ bytes_run n ks q 0 last (omega arith) (long q) pos)
      (cases_lt (length text) (n * q)) in
      ap₂ (λ (a b : List ℕ). a ++ b) (blocks-bytes text q) (sym run)
      ∙ sym (bytes-more (byte_at n ks) 0 front last ∙ ap (λ (k : ℕ). joined_bytes (byte_at n ks) 0 front ++ joined_bytes (byte_at n ks) k last) (omega arith))
      ∙ ap (joined_bytes (byte_at n ks) 0) (sym parts)

  -- block by block and byte by byte are the same
  joined-bytes : (text : List ℕ) → joined_with n ks text ≡ joined_bytes (byte_at n ks) 0 text
  unfolding joined_with
  joined-bytes text =
      let q : ℕ = blocks_in n text in
      let d : (length text + (n - 1)) / n * n + (length text + (n - 1)) % n ≡ length text + (n - 1) = div-add-mod' (length text + (n - 1)) n in
      let r : (length text + (n - 1)) % n < n = mod-lt (length text + (n - 1)) pos in
      let c : (length text + (n - 1)) / n * n ≡ n * ((length text + (n - 1)) / n) = mul_comm ((length text + (n - 1)) / n) n in
      blocks-bytes text ((length text + (n - 1)) / n)
      ∙ ap (joined_bytes (byte_at n ks) 0) (take_all (n * ((length text + (n - 1)) / n)) text (omega arith))

  pub joined-twice : (text : List ℕ) → joined_with n ks (joined_with n ks text) ≡ text
  joined-twice text =
      joined-bytes (joined_with n ks text) ∙ ap (joined_bytes (byte_at n ks) 0) (joined-bytes text) ∙ bytes-twice (byte_at n ks) 0 text

  pub length-joined_with : (text : List ℕ) → length (joined_with n ks text) ≡ length text
  length-joined_with text = ap length (joined-bytes text) ∙ length-bytes (byte_at n ks) 0 text

  -- a run of bytes behind a text, within block b of the keystream
  pub joined-run : (text run : List ℕ) (b u : ℕ) → length text ≡ n * b + u → u + length run ≤ n
      → joined_with n ks (text ++ run) ≡ joined_with n ks text ++ (run ⊕ drop u (ks b))
  joined-run text run b u e h =
      joined-bytes (text ++ run)
      ∙ bytes-more (byte_at n ks) 0 text run
      ∙ ap₂ (λ (a b : List ℕ). a ++ b) (sym (joined-bytes text))
      (ap (λ (k : ℕ). joined_bytes (byte_at n ks) k run) (omega arith) ∙ bytes_run n ks b u run h (long b) pos)

-- ---- counter blocks

half-plus : (n : ℕ) → (n ≡ 8) ⊎ (n ≡ 16) → n / 2 + n / 2 ≡ n
half-plus n s = ⊎_elim (λ (e : n ≡ 8). omega arith) (λ (e : n ≡ 16). omega arith) s

pub counter-block : (m : Meaning) (start : List ℕ) (i : ℕ) → Lawful m → Block (m.size / 2) start → Block m.size (counter_block m.size start i)
counter-block m start i l b = record {
  long = length-append start (big_endian (m.size / 2) i) ∙ omega (arith, b.long, length-big_endian (m.size / 2) i, half-plus m.size l.sized);
  bytes = All-append (λ x. x < 256) start (big_endian (m.size / 2) i) b.bytes (bytes-big_endian (m.size / 2) i);
}

pub stream-long : (m : Meaning) (start : List ℕ) → Lawful m → Block (m.size / 2) start → (i : ℕ) → length (counter_stream m start i) ≡ m.size
stream-long m start l b i = (l.forward-block _ (counter-block m start i l b)).long

pub counters-apart : (m : Meaning) (start other : List ℕ) (i j : ℕ) → Lawful m → Block (m.size / 2) start → Block (m.size / 2) other
    → i < 2 ^ (4 * m.size) → j < 2 ^ (4 * m.size)
    → counter_block m.size start i ≡ counter_block m.size other j → (start ≡ other) × (i ≡ j)
counters-apart m start other i j l bs bo hi hj e =
    let h : ℕ = m.size / 2 in
    let fits : 2 ^ (4 * m.size) ≡ 256 ^ (m.size / 2) =
    ⊎_elim
    (λ (k : m.size ≡ 8). ap (λ (n : ℕ). 2 ^ (4 * n)) k ∙ ap (λ (n : ℕ). 256 ^ (n / 2)) (sym k))
    (λ (k : m.size ≡ 16). ap (λ (n : ℕ). 2 ^ (4 * n)) k ∙ ap (λ (n : ℕ). 256 ^ (n / 2)) (sym k))
    l.sized in
    let front : start ≡ other = sym (take_at start (big_endian h i) h bs.long) ∙ ap (take h) e ∙ take_at other (big_endian h j) h bo.long in
    let back : big_endian h i ≡ big_endian h j = sym (drop_at start (big_endian h i) h bs.long) ∙ ap (drop h) e ∙ drop_at other (big_endian h j) h bo.long in
    (front, same-from-big_endian h i j (rw fits at hi) (rw fits at hj) back)
