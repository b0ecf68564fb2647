-- How a MAC goes on, and how it ends.
use Rattle.std.proofs.Common.{◌≡◌, ℕ, suc, ◌+◌, ◌-◌, ◌*◌, ◌/◌, ◌%◌, ◌<◌, ◌≤◌, min, Bool, true, false, cond, leb, List, [], ◌∷◌, ◌++◌, length, get_or, take, drop, set, replicate, sym, refl, ap, ◌∙◌, subst, ap₂, ⊎_elim, mod-eq_of_lt, mul_comm, arith, take-add}
use native.Mathlib.Nat.{zero-div}
use borrow.Rule.Slice.PartMut.{post_of}
use lib.Bits.{bit_xor}
use Rattle.std.proofs.ByRecursion.{All-take, All-drop}
use Rattle.std.proofs.lemmas.List.{append_assoc, length-take, length-drop, length-replicate, take-replicate, take_at, drop-append-le, drop-replicate}
use Rattle.std.proofs.lemmas.Nat.{mod-mul-add}
use Rattle.std.proofs.lemmas.Bool.{leb-true, leb-false, eq-eqb, ne_eqb, cases_lt}
use Rattle.block.proofs.Bytes.{xor-list-comm}
use Rattle.modes_spec.specs.Cbc.{chained}
use Rattle.modes_spec.proofs.Mac.{subkeys-same, subkey1-block, subkey2-block}
use Rattle.modes_spec.proofs.Texts.{take-joined-front, joined-front-whole}
use Rattle.block.specs.Blocks.{Block, Meaning, Lawful, Same, Bytes}
use Rattle.modes_spec.specs.Mac.{blocks_before, last_block, ends_whole, subkey1, subkey2, mac}
use Rattle.modes_spec.specs.Texts.{◌⊕◌, joined_front, zeros, filled}
use Rattle.modes_spec.proofs.Cbc.{size-pos, zeros-bytes, bytes-filled, block-xor, chained_append, chained-block}
use Rattle.modes.specs.ChainState.{ChainAt}
use Rattle.modes.specs.MacState.{MacAt, AbsorbedMac}
use Rattle.modes.specs.declared.chain.Chain.{Chain}
use Rattle.modes.specs.declared.mac.Mac.{Mac}
use Rattle.modes.proofs.Chaining.{chain-begun, chain-advanced, chain-joined, chain-filled, blocks-before}
use Rattle.modes.proofs.Streams.{rest-behind, same_then}

pub size-high : (m : Meaning) → Lawful m → m.size ≤ 16
size-high m l = ⊎_elim (λ (e : m.size ≡ 8). omega arith) (λ (e : m.size ≡ 16). omega arith) l.sized

pub begun-mac : (m : Meaning) → Lawful m → ChainAt m (zeros m.size) [] (blocks_before m.size []) record { register = replicate 16 0; filled = 0 }
begun-mac m l =
    let none : blocks_before m.size [] ≡ 0 = zero-div m.size in
    subst (λ (q : ℕ). ChainAt m (zeros m.size) [] q record { register = replicate 16 0; filled = 0 }) (sym none)
    (chain-begun m (zeros m.size) (replicate 16 0) l record { long = length-replicate m.size 0; bytes = zeros-bytes m.size } refl
    (take-replicate m.size 16 0 (size-high m l)))

-- a MAC that has room in its block for the next byte: it has taken the text in, and made C_q for some q
pub record Ready (cipher : Meaning) (s₀ : Mac) (xs : List ℕ) (c : Chain) : Type 0 where
  pub room : c.filled < cipher.size
  pub chain : (m : Meaning) (text : List ℕ) → Same m cipher → MacAt m text s₀ → (q : ℕ) × ChainAt m (zeros m.size) (text ++ xs) q c

pub ready-advanced : (m o : Meaning) (s₀ s : Mac) (c : Chain) (xs : List ℕ) → Same m o → Lawful m → m.size ≤ s.chain.filled
    → take o.size c.register ≡ o.forward (take o.size s.chain.register) → length c.register ≡ 16 → c.filled ≡ 0
    → AbsorbedMac m s₀ xs s → Ready m s₀ xs c
ready-advanced m o s₀ s c xs same l full made long begun inv = record {
  room = let pos : 0 < m.size = size-pos m l in omega arith;
  chain = λ n text sm hold.
      let size : n.size ≡ m.size = sm.sizes in (
        suc (blocks_before n.size (text ++ xs)),
        chain-advanced n o (zeros n.size) (text ++ xs) (blocks_before n.size (text ++ xs)) s.chain c (same_then n m o sm same) (inv n text sm hold) (omega arith) made long begun,
      );
}

pub ready-already : (m : Meaning) (s₀ s : Mac) (xs : List ℕ) → s.chain.filled < m.size → AbsorbedMac m s₀ xs s → Ready m s₀ xs s.chain
ready-already m s₀ s xs h inv = record { room = h; chain = λ n text sm hold. (blocks_before n.size (text ++ xs), inv n text sm hold) }

-- one turn of the loop over a piece: r bytes behind the first `at` are joined
pub absorbed-turn : (m : Meaning) (n : ℕ) (s₀ : Mac) (c : Chain) (s' : Mac) (X rest : List ℕ) (at r : ℕ) → n ≡ m.size → n ≤ 16 → Bytes X
    → rest ≡ drop at X → 0 < length rest → r ≡ min (n - c.filled) (length rest)
    → s'.chain.filled ≡ c.filled + r
    → s'.chain.register ≡ take c.filled c.register ++ joined_front (drop c.filled c.register) (take r rest)
    → Ready m s₀ (take at X) c → (at + r ≤ length X) × (take (length rest - r) (drop r rest) ≡ drop (at + r) X) × AbsorbedMac m s₀ (take (at + r) X) s'
absorbed-turn m n s₀ c s' X rest at r es small bytes all some er fill reg ready =
    let r2 : r ≡ min (n - c.filled) (length (drop at X)) = er ∙ ap (λ (x : List ℕ). min (n - c.filled) (length x)) all in
    let ld : length (drop at X) ≡ length X - at = length-drop at X in
    let lt : length rest ≡ length X - at = ap length all ∙ ld in
    let room : c.filled < m.size = ready.room in
    let run : List ℕ = take r (drop at X) in
    let lrun : length (take r (drop at X)) ≡ r = simp length-take (omega arith) in
    let split : take (at + r) X ≡ take at X ++ take r (drop at X) = take-add at r X in (
      omega arith,
      rest-behind at r X rest all,
      λ o text sm hold.
          let size : o.size ≡ m.size = sm.sizes in
          let p = ready.chain o text sm hold in
          let joined : ChainAt o (zeros o.size) ((text ++ take at X) ++ take r (drop at X)) p.0 s'.chain =
          chain-joined o (zeros o.size) (text ++ take at X) (take r (drop at X)) p.0 c s'.chain p.1 (omega arith) (omega arith)
          (All-take (λ x. x < 256) r (drop at X) (All-drop (λ x. x < 256) at X bytes))
          (reg ∙ ap (λ (x : List ℕ). take c.filled c.register ++ joined_front (drop c.filled c.register) (take r x)) all)
          (fill ∙ ap (λ (k : ℕ). c.filled + k) (sym lrun)) in
          let whole : (text ++ take at X) ++ take r (drop at X) ≡ text ++ take (at + r) X =
          append_assoc text (take at X) (take r (drop at X)) ∙ ap (λ (x : List ℕ). text ++ x) (sym split) in
          let there : ChainAt o (zeros o.size) (text ++ take (at + r) X) p.0 s'.chain =
          subst (λ (x : List ℕ). ChainAt o (zeros o.size) x p.0 s'.chain) whole joined in
          let w : s'.chain.filled ≤ o.size = there.within in
          let before : blocks_before o.size (text ++ take (at + r) X) ≡ p.0 =
          ap (λ (k : ℕ). (k - 1) / o.size) there.placed ∙ blocks-before o.size p.0 s'.chain.filled (omega arith) w in
          subst (λ (q : ℕ). ChainAt o (zeros o.size) (text ++ take (at + r) X) q s'.chain) (sym before) there,
    )

-- ---- the end

-- the last E: of the last block, joined with C_(q-1) and the subkey
ended_by : (m o p : Meaning) (reg reg₂ reg₃ last C K K' : List ℕ) → Lawful m → Same m o → Same o p
    → take m.size reg ≡ last ⊕ C → Block m.size last → Block m.size C → K ≡ K' → Block m.size K'
    → reg₂ ≡ joined_front reg (K ++ zeros (16 - o.size)) → take p.size reg₃ ≡ p.forward (take p.size reg₂)
    → take m.size reg₃ ≡ m.forward ((last ⊕ C) ⊕ K')
ended_by m o p reg reg₂ reg₃ last C K K' l so sp er bl bc ek bk e₂ e₃ =
    let n : ℕ = m.size in
    let sm : Same m p = same_then m o p so sp in
    let both : Block n (last ⊕ C) = block-xor n last C bl bc in
    let lk : length K ≡ n = ap length ek ∙ bk.long in
    let joined : take n reg₂ ≡ (last ⊕ C) ⊕ K' =
    ap (take n) e₂
    ∙ take-joined-front n reg (K ++ zeros (16 - o.size))
    ∙ ap₂ joined_front er (take_at K (zeros (16 - o.size)) n lk ∙ ek)
    ∙ joined-front-whole (last ⊕ C) K' (both.long ∙ sym bk.long) in
    ap (λ (k : ℕ). take k reg₃) sm.sizes
    ∙ e₃
    ∙ ap (λ (k : ℕ). p.forward (take k reg₂)) (sym sm.sizes)
    ∙ ap p.forward joined
    ∙ sym (sm.forwards _ (block-xor n (last ⊕ C) K' both bk))

module _ (m : Meaning) (text : List ℕ) (s : Mac) (h : MacAt m text s) where
  length_last : length (last_block m.size text) ≡ s.chain.filled
  length_last = let p : length text ≡ m.size * blocks_before m.size text + s.chain.filled = h.placed in simp length-drop (omega arith)

  chained-is-block : Block m.size (chained m (zeros m.size) text (blocks_before m.size text))
  chained-is-block =
      let p : length text ≡ m.size * blocks_before m.size text + s.chain.filled = h.placed in
      chained-block m (zeros m.size) text (blocks_before m.size text) h.lawful h.begun h.bytes (omega arith)

  last-bytes : Bytes (last_block m.size text)
  last-bytes = All-drop (λ x. x < 256) (m.size * blocks_before m.size text) text h.bytes

  -- P_q is whole
  whole-last : m.size ≤ s.chain.filled → (take m.size s.chain.register ≡ last_block m.size text ⊕ chained m (zeros m.size) text (blocks_before m.size text)) × Block m.size (last_block m.size text)
  whole-last full =
      let w : s.chain.filled ≤ m.size = h.within in
      let l : length (last_block m.size text) ≡ m.size = length_last ∙ omega arith in (
        h.held ∙ joined-front-whole _ (last_block m.size text) (chained-is-block.long ∙ sym l) ∙ xor-list-comm _ (last_block m.size text),
        record { long = l; bytes = last-bytes },
      )

  -- P_q is filled
  filled-last : (reg : List ℕ) → s.chain.filled < m.size → reg ≡ set s.chain.register s.chain.filled (bit_xor (get_or s.chain.register s.chain.filled 0) 128)
      → (take m.size reg ≡ filled m.size (last_block m.size text) ⊕ chained m (zeros m.size) text (blocks_before m.size text)) × Block m.size (filled m.size (last_block m.size text))
  filled-last reg lt e =
      let n : ℕ = m.size in
      let q : ℕ = blocks_before m.size text in
      let f : ℕ = s.chain.filled in
      let p : length text ≡ m.size * blocks_before m.size text + s.chain.filled = h.placed in
      let done : ChainAt m (zeros n) (filled n text) q record { register = reg; filled = n } =
      chain-filled m (zeros n) text q s.chain record { register = reg; filled = n } h lt (size-high m h.lawful) e refl in
      let c : n * q ≡ q * n = mul_comm n q in
      let r1 : length text % n ≡ f = ap (λ (k : ℕ). k % n) (p ∙ ap (λ (k : ℕ). k + f) c) ∙ mod-mul-add q n f lt in
      let r2 : length (last_block n text) % n ≡ f = ap (λ (k : ℕ). k % n) length_last ∙ mod-eq_of_lt lt in
      let back : drop (n * q) (filled n text) ≡ filled n (last_block n text) =
      drop-append-le (n * q) text (128 ∷ zeros (n - 1 - length text % n)) (omega arith)
      ∙ ap (λ (k : ℕ). last_block n text ++ (128 ∷ zeros (n - 1 - k))) (r1 ∙ sym r2) in
      let stays : chained m (zeros n) (filled n text) q ≡ chained m (zeros n) text q = chained_append m (zeros n) text (128 ∷ zeros (n - 1 - length text % n)) q (omega arith) in
      let pl : length (filled n text) ≡ n * q + n = done.placed in
      let l : length (filled n (last_block n text)) ≡ n = ap length (sym back) ∙ simp length-drop (omega arith) in (
        done.held ∙ ap₂ joined_front stays back ∙ joined-front-whole _ _ (chained-is-block.long ∙ sym l) ∙ xor-list-comm (chained m (zeros n) text q) (filled n (last_block n text)),
        record { long = l; bytes = bytes-filled n (last_block n text) last-bytes },
      )

  ended : (o p : Meaning) (reg reg₂ reg₃ last K K' : List ℕ) (whole : Bool) → Same m o → Same o p → ends_whole m.size text ≡ whole
      → take m.size reg ≡ last ⊕ chained m (zeros m.size) text (blocks_before m.size text) → Block m.size last
      → K ≡ K' → Block m.size K' → reg₂ ≡ joined_front reg (K ++ zeros (16 - o.size)) → take p.size reg₃ ≡ p.forward (take p.size reg₂)
      → last ≡ cond whole (last_block m.size text) (filled m.size (last_block m.size text)) → K' ≡ cond whole (subkey1 m) (subkey2 m)
      → take m.size reg₃ ≡ mac m text
  unfolding mac
  ended o p reg reg₂ reg₃ last K K' whole so sp ew er bl ek bk e₂ e₃ el e_k =
      ended_by m o p reg reg₂ reg₃ last _ K K' h.lawful so sp er bl chained-is-block ek bk e₂ e₃
      ∙ ap₂ (λ (x y : List ℕ). m.forward ((x ⊕ chained m (zeros m.size) text (blocks_before m.size text)) ⊕ y))
      (el ∙ ap (λ (b : Bool). cond b (last_block m.size text) (filled m.size (last_block m.size text))) (sym ew))
      (e_k ∙ ap (λ (b : Bool). cond b (subkey1 m) (subkey2 m)) (sym ew))

  -- the register before the last E, with the subkey joined
  pub mac-made : (o p : Meaning) (reg reg₂ reg₃ : List ℕ) (whole : Bool) → Same m o → Same o p → whole ≡ leb m.size s.chain.filled
      → reg ≡ cond whole s.chain.register (set s.chain.register s.chain.filled (bit_xor (get_or s.chain.register s.chain.filled 0) 128))
      → reg₂ ≡ joined_front reg (cond whole (subkey1 o) (subkey2 o) ++ zeros (16 - o.size))
      → take p.size reg₃ ≡ p.forward (take p.size reg₂)
      → take m.size reg₃ ≡ mac m text
  mac-made o p reg reg₂ reg₃ true so sp ew er e₂ e₃ =
      let full : m.size ≤ s.chain.filled = leb-true m.size s.chain.filled (sym ew) in
      let w : s.chain.filled ≤ m.size = h.within in
      let a = whole-last full in
      let yes : ends_whole m.size text ≡ true = eq-eqb _ m.size (length_last ∙ omega arith) in
      let front = ap (take m.size) er ∙ a.0 in
      ended o p reg reg₂ reg₃ (last_block m.size text) (subkey1 o) (subkey1 m) true so sp yes front a.1 (subkeys-same m o so).0 (subkey1-block m h.lawful) e₂ e₃ refl refl
  mac-made o p reg reg₂ reg₃ false so sp ew er e₂ e₃ =
      let short : s.chain.filled < m.size = leb-false m.size s.chain.filled (sym ew) in
      let a = filled-last reg short er in
      let not : ends_whole m.size text ≡ false = ne_eqb _ m.size (λ (e : length (last_block m.size text) ≡ m.size). omega (arith, e, length_last)) in
      ended o p reg reg₂ reg₃ (filled m.size (last_block m.size text)) (subkey2 o) (subkey2 m) false so sp not a.0 a.1 (subkeys-same m o so).1 (subkey2-block m h.lawful) e₂ e₃ refl refl

-- a MAC is a block
pub mac-long : (m : Meaning) (text : List ℕ) {s : Mac} → MacAt m text s → length (mac m text) ≡ m.size
unfolding mac
mac-long m text {s} h =
    let b = chained-is-block m text s h in
    let w : s.chain.filled ≤ m.size = h.within in
    ⊎_elim
    (λ (lt : s.chain.filled < m.size).
    let no : ends_whole m.size text ≡ false = ne_eqb _ m.size (λ (e : length (last_block m.size text) ≡ m.size). omega (arith, e, length_last m text s h)) in
    let a = filled-last m text s h _ lt refl in
    ap (λ (x : Bool). length (mac_of x)) no ∙ (h.lawful.forward-block _ (block-xor m.size _ _ (block-xor m.size _ _ a.1 b) (subkey2-block m h.lawful))).long)
    (λ (ge : m.size ≤ s.chain.filled).
    let yes : ends_whole m.size text ≡ true = eq-eqb _ m.size (length_last m text s h ∙ omega arith) in
    let a = whole-last m text s h ge in
    ap (λ (x : Bool). length (mac_of x)) yes ∙ (h.lawful.forward-block _ (block-xor m.size _ _ (block-xor m.size _ _ a.1 b) (subkey1-block m h.lawful))).long)
    (cases_lt s.chain.filled m.size)
  where
    mac_of : Bool → List ℕ
    mac_of whole =
        m.forward
        ((cond whole (last_block m.size text) (filled m.size (last_block m.size text)) ⊕ chained m (zeros m.size) text (blocks_before m.size text))
        ⊕ cond whole (subkey1 m) (subkey2 m))

-- the tag: the front of the register, and zeros
pub tag-made : (m : Meaning) (n : ℕ) (text reg T : List ℕ) → n ≡ m.size → n ≤ 16 → T ≡ take (n - 0) reg → take m.size reg ≡ mac m text
    → T ++ post_of 0 (n - 0) (replicate 16 0) ≡ mac m text ++ zeros (16 - m.size)
tag-made m n text reg T es small et e =
    let z : n - 0 ≡ m.size = omega arith in
    ap₂ (λ (a b : List ℕ). a ++ b) (et ∙ ap (λ (k : ℕ). take k reg) z ∙ e) (ap (λ (k : ℕ). drop k (replicate 16 0)) z ∙ drop-replicate m.size 16 0)

pub subkey-made : (m : Meaning) (n : ℕ) (K T : List ℕ) → n ≡ m.size → T ≡ K → T ++ post_of 0 (n - 0) (replicate 16 0) ≡ K ++ zeros (16 - m.size)
subkey-made m n K T es et =
    let z : n - 0 ≡ m.size = omega arith in
    ap₂ (λ (a b : List ℕ). a ++ b) et (ap (λ (k : ℕ). drop k (replicate 16 0)) z ∙ drop-replicate m.size 16 0)
