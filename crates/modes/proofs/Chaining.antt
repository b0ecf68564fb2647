-- How a chaining register goes on.
use Rattle.std.proofs.Common.{◌≡◌, ℕ, suc, ◌+◌, ◌-◌, ◌*◌, ◌/◌, ◌%◌, ◌<◌, ◌≤◌, List, [], ◌∷◌, ◌++◌, length, get_or, take, drop, set, sym, ap, ◌∙◌, ap₂, mul_comm, mul-zero, mul-suc, arith, take-add}
use borrow.Rule.Slice.PartMut.{put_mid, post_of}
use lib.Bits.{bit_xor}
use Rattle.std.proofs.lemmas.Nat.{div-mul-add, mod-mul-add}
use Rattle.std.proofs.ByRecursion.{All-append}
use Rattle.std.proofs.lemmas.List.{append-nil, length-append, length-take, length-drop, take_at, drop_at, take_all, take-take, drop-take, drop_all, drop-append-le, length-replicate}
use Rattle.block.specs.Blocks.{Block, Meaning, Lawful, Same, Bytes}
use Rattle.block.proofs.Bytes.{xor-list-comm}
use Rattle.modes_spec.specs.Cbc.{chained}
use Rattle.modes_spec.specs.Texts.{◌⊕◌, block_at, joined_front, zeros, filled}
use Rattle.modes_spec.proofs.Cbc.{block-xor, block-whole, chained_append, chained-block, zeros-bytes}
use Rattle.modes_spec.proofs.Texts.{length-joined-front, joined-front-more, joined-front-whole, take-joined-front, joined-one}
use Rattle.modes.specs.ChainState.{ChainAt}
use Rattle.modes.specs.declared.chain.Chain.{Chain}

-- ---- what the calls leave in the register

pub advanced : (m : Meaning) (n : ℕ) (reg X : List ℕ) → n ≡ m.size → n ≤ 16 → length reg ≡ 16
    → length X ≡ length (take (n - 0) reg) → X ≡ m.forward (take (n - 0) reg)
    → (take m.size (X ++ post_of 0 (n - 0) reg) ≡ m.forward (take m.size reg)) × (length (X ++ post_of 0 (n - 0) reg) ≡ 16)
advanced m n reg X es small lr lx ex =
    let z : n - 0 ≡ m.size = omega arith in
    let lt : length (take (n - 0) reg) ≡ m.size = simp length-take (omega arith) in
    let ex2 : X ≡ m.forward (take m.size reg) =
    ex ∙ ap (λ (k : ℕ). m.forward (take k reg)) z in
    (take_at X (post_of 0 (n - 0) reg) m.size (lx ∙ lt) ∙ ex2, simp (length-append, length-drop) (omega arith))

pub joined-behind : (reg piece W : List ℕ) (f r : ℕ) → length reg ≡ 16 → f ≤ 16 → W ≡ joined_front (take (16 - f) (drop f reg)) (take (r - 0) piece)
    → put_mid f (16 - f) reg W ≡ take f reg ++ joined_front (drop f reg) (take r piece)
joined-behind reg piece W f r lr h ew =
    let all : take (16 - f) (drop f reg) ≡ drop f reg = take_all (16 - f) (drop f reg) (simp length-drop (omega arith)) in
    let none : post_of f (16 - f) reg ≡ [] = drop_all (16 - f) (drop f reg) (simp length-drop (omega arith)) in
    let z : r - 0 ≡ r = omega arith in
    ap₂ (λ (a b : List ℕ). take f reg ++ (a ++ b)) (ew ∙ ap₂ (λ (x : List ℕ) (k : ℕ). joined_front x (take k piece)) all z) none
    ∙ ap (λ (x : List ℕ). take f reg ++ x) (append-nil (joined_front (drop f reg) (take r piece)))

-- ---- what a chain has taken in

-- a whole block becomes C_(q+1)
pub chain-advanced : (m o : Meaning) (iv text : List ℕ) (q : ℕ) (s s' : Chain) → Same m o → ChainAt m iv text q s → m.size ≤ s.filled
    → take o.size s'.register ≡ o.forward (take o.size s.register) → length s'.register ≡ 16 → s'.filled ≡ 0
    → ChainAt m iv text (suc q) s'
unfolding chained
chain-advanced m o iv text q s s' same h full made long begun =
    let n : ℕ = m.size in
    let w : s.filled ≤ m.size = h.within in
    let p : length text ≡ m.size * q + s.filled = h.placed in
    let next : m.size * suc q ≡ m.size * q + m.size = mul-suc m.size q in
    let last : drop (n * q) text ≡ block_at n text q = sym (take_all n (drop (n * q) text) (simp length-drop (omega arith))) in
    let c : Block n (chained m iv text q) = chained-block m iv text q h.lawful h.begun h.bytes (omega arith) in
    let b : Block n (block_at n text q) = block-whole n text q h.bytes (omega arith) in
    let joined : take n s.register ≡ block_at n text q ⊕ chained m iv text q =
    h.held ∙ ap (joined_front (chained m iv text q)) last ∙ joined-front-whole (chained m iv text q) (block_at n text q) (c.long ∙ sym b.long)
    ∙ xor-list-comm (chained m iv text q) (block_at n text q) in
    let made2 : take n s'.register ≡ chained m iv text (suc q) =
    ap (λ (k : ℕ). take k s'.register) same.sizes ∙ made ∙ ap (λ (k : ℕ). o.forward (take k s.register)) (sym same.sizes)
    ∙ ap o.forward joined ∙ sym (same.forwards _ (block-xor n _ _ b c)) in
    let none : drop (n * suc q) text ≡ [] = drop_all (n * suc q) text (omega arith) in
    record {
      lawful = h.lawful;
      begun = h.begun;
      bytes = h.bytes;
      long = long;
      within = omega arith;
      placed = omega arith;
      held = made2 ∙ ap (joined_front (chained m iv text (suc q))) (sym none);
    }

-- bytes within the block are joined
pub chain-joined : (m : Meaning) (iv text ys : List ℕ) (q : ℕ) (s s' : Chain) → ChainAt m iv text q s → s.filled + length ys ≤ m.size → m.size ≤ 16 → Bytes ys
    → s'.register ≡ take s.filled s.register ++ joined_front (drop s.filled s.register) ys → s'.filled ≡ s.filled + length ys
    → ChainAt m iv (text ++ ys) q s'
chain-joined m iv text ys q s s' h fits small bytes reg fill =
    let n : ℕ = m.size in
    let f : ℕ = s.filled in
    let w : s.filled ≤ m.size = h.within in
    let p : length text ≡ m.size * q + s.filled = h.placed in
    let lr : length s.register ≡ 16 = h.long in
    let t : List ℕ = drop (n * q) text in
    let lt : length (drop (n * q) text) ≡ s.filled = simp length-drop (omega arith) in
    let c : List ℕ = chained m iv text q in
    let lc : length (chained m iv text q) ≡ n = (chained-block m iv text q h.lawful h.begun h.bytes (omega arith)).long in
    let behind : drop (n * q) (text ++ ys) ≡ t ++ ys = drop-append-le (n * q) text ys (omega arith) in
    let stays : chained m iv (text ++ ys) q ≡ c = chained_append m iv text ys q (omega arith) in
    let lf : length (take f s.register) ≡ f = simp length-take (omega arith) in
    let inner : take n s'.register ≡ take f s.register ++ joined_front (take (n - f) (drop f s.register)) ys =
    ap (take n) reg
    ∙ ap (λ (k : ℕ). take k (take f s.register ++ joined_front (drop f s.register) ys)) (sym (whole_of f n w))
    ∙ take-add f (n - f) (take f s.register ++ joined_front (drop f s.register) ys)
    ∙ ap₂ (λ (a b : List ℕ). a ++ take (n - f) b) (take_at (take f s.register) _ f lf) (drop_at (take f s.register) _ f lf)
    ∙ ap (λ (x : List ℕ). take f s.register ++ x) (take-joined-front (n - f) (drop f s.register) ys ∙ ap (joined_front (take (n - f) (drop f s.register))) (take_all (n - f) ys (omega arith))) in
    let front : take f s.register ≡ take f (joined_front c t) = sym (take-take f n s.register w) ∙ ap (take f) h.held in
    let rest : take (n - f) (drop f s.register) ≡ drop f (joined_front c t) =
    sym (drop-take f (n - f) s.register) ∙ ap (λ (k : ℕ). drop f (take k s.register)) (whole_of f n w) ∙ ap (drop f) h.held in
    let more : joined_front c (t ++ ys) ≡ take f (joined_front c t) ++ joined_front (drop f (joined_front c t)) ys =
    joined-front-more c t ys (omega arith) ∙ ap (λ (k : ℕ). take k (joined_front c t) ++ joined_front (drop k (joined_front c t)) ys) lt in
    record {
      lawful = h.lawful;
      begun = h.begun;
      bytes = All-append (λ x. x < 256) text ys h.bytes bytes;
      long = ap length reg ∙ length-append (take f s.register) _ ∙ ap₂ (λ (a b : ℕ). a + b) lf (length-joined-front (drop f s.register) ys ∙ length-drop f s.register) ∙ omega arith;
      within = omega arith;
      placed = length-append text ys ∙ omega arith;
      held = inner ∙ ap₂ (λ (a b : List ℕ). a ++ joined_front b ys) front rest ∙ sym more ∙ ap₂ joined_front (sym stays) (sym behind);
    }
  where
    whole_of : (f n : ℕ) → f ≤ n → f + (n - f) ≡ n
    whole_of f n h = omega arith

-- a chain that has taken nothing in
pub chain-begun : (m : Meaning) (iv reg : List ℕ) → Lawful m → Block m.size iv → length reg ≡ 16 → take m.size reg ≡ iv
    → ChainAt m iv [] 0 record { register = reg; filled = 0 }
unfolding chained
chain-begun m iv reg l b long e = record {
  lawful = l;
  begun = b;
  bytes = tt;
  long = long;
  within = omega arith;
  placed = omega (arith, mul-zero m.size);
  held = e ∙ ap (joined_front iv) (sym (drop_all (m.size * 0) [] (omega arith)));
}

-- how many blocks are whole before the last byte of a text of n q + f bytes, 0 < f ≤ n
pub blocks-before : (n q f : ℕ) → 0 < f → f ≤ n → (n * q + f - 1) / n ≡ q
blocks-before n q f some h =
    let c : n * q ≡ q * n = mul_comm n q in
    let e : n * q + f - 1 ≡ q * n + (f - 1) = omega arith in
    ap (λ (k : ℕ). k / n) e ∙ div-mul-add q n (f - 1) (omega arith)

-- the last block is filled by procedure 2
pub chain-filled : (m : Meaning) (iv text : List ℕ) (q : ℕ) (s s' : Chain) → ChainAt m iv text q s → s.filled < m.size → m.size ≤ 16
    → s'.register ≡ set s.register s.filled (bit_xor (get_or s.register s.filled 0) 128) → s'.filled ≡ m.size
    → ChainAt m iv (filled m.size text) q s'
chain-filled m iv text q s s' h lt small reg fill =
    let n : ℕ = m.size in
    let f : ℕ = s.filled in
    let p : length text ≡ m.size * q + s.filled = h.placed in
    let c : n * q ≡ q * n = mul_comm n q in
    let rest : length text % n ≡ f = ap (λ (k : ℕ). k % n) (p ∙ ap (λ (k : ℕ). k + f) c) ∙ mod-mul-add q n f lt in
    let pad : List ℕ = 128 ∷ zeros (n - 1 - length text % n) in
    let lpad : length pad ≡ n - f = ap suc (length-replicate (n - 1 - length text % n) 0) ∙ omega arith in
    let long : length s.register ≡ 16 = h.long in
    chain-joined m iv text pad q s s' h (omega arith) small (omega arith, zeros-bytes (n - 1 - length text % n))
    (reg ∙ joined-one s.register f 128 (n - 1 - length text % n) (omega arith)) (fill ∙ omega arith)
