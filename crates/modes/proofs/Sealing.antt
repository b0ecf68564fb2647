-- How cbc goes on piece by piece, and how it ends.
use Rattle.std.proofs.Common.{◌≡◌, ℕ, suc, ◌+◌, ◌-◌, ◌*◌, ◌/◌, ◌%◌, ◌<◌, ◌≤◌, min, List, [], ◌∷◌, ◌++◌, length, get_or, take, drop, set, Ok, Err, Result, sym, refl, ap, ◌∙◌, subst, ap₂, mod-lt, mod-eq_of_lt, mul_comm, mul-le-mul_left, mul-suc, add-one, arith, take-add}
use native.Mathlib.Nat.{zero-div}
use borrow.Rule.Slice.PartMut.{put_mid, post_of}
use lib.Bits.{bit_xor}
use Rattle.std.proofs.lemmas.Nat.{div-mul-add, div-add-mod', le-div}
use Rattle.std.proofs.ByRecursion.{All-take, All-drop}
use Rattle.std.proofs.lemmas.List.{append_assoc, length-take, take_at, drop_at, drop_all, drop-drop}
use Rattle.std.proofs.lemmas.Slice.{take-put_mid, drop-put_mid}
use Rattle.block.specs.Blocks.{Meaning, Lawful, Same, Bytes}
use Rattle.modes_spec.specs.Cbc.{chained, cbc_blocks, cbc_sealed}
use Rattle.modes_spec.specs.Texts.{joined_front, joined_to, filled, zeros}
use Rattle.modes_spec.proofs.Cbc.{size-pos, cbc-append}
use Rattle.modes.specs.ChainState.{ChainAt}
use Rattle.modes.specs.CbcState.{CbcAt, SealedCbc, sealed_so_far, whole_blocks, out_answer}
use Rattle.modes.specs.declared.cbc.CbcFault.{CbcFault}
use Rattle.modes.specs.declared.cbc.CbcFault.TheVariants.{ShortOutput}
use Rattle.std.proofs.lemmas.Bool.{cond_above}
use Rattle.modes.specs.declared.cbc.CbcSealer.{CbcSealer}
use Rattle.modes.specs.declared.chain.Chain.{Chain}
use Rattle.modes.proofs.Chaining.{chain-begun, chain-advanced, chain-joined, chain-filled}
use Rattle.modes.proofs.Macs.{size-high}
use Rattle.modes.proofs.Streams.{same_then}

pub begun-cbc : (m : Meaning) (start : List ℕ) → Lawful m → length start ≡ 16 → Bytes start → CbcAt m (take m.size start) [] record { chain = record { register = start; filled = 0 } }
begun-cbc m start l long bytes =
    let high : m.size ≤ 16 = size-high m l in
    subst (λ (q : ℕ). ChainAt m (take m.size start) [] q record { register = start; filled = 0 }) (sym (zero-div m.size))
    (chain-begun m (take m.size start) start l record { long = simp length-take (omega arith); bytes = All-take (λ x. x < 256) m.size start bytes } long refl)

-- how many blocks are whole in a text of n q + f bytes, f < n
pub whole-blocks : (n q f k : ℕ) → k ≡ n * q + f → f < n → k / n ≡ q
whole-blocks n q f k e h = ap (λ (x : ℕ). x / n) (e ∙ ap (λ (x : ℕ). x + f) (mul_comm n q)) ∙ div-mul-add q n f h

-- a text is taken in, and ys is the cipher text of some number of its blocks; the current block may have become whole
abbrev pub JoinedCbc : Meaning → CbcSealer → List ℕ → Chain → List ℕ → Type 0
JoinedCbc cipher s₀ xs c ys =
    (m : Meaning) (iv text : List ℕ) → Same m cipher → CbcAt m iv text s₀
    → (q : ℕ) × (ChainAt m iv (text ++ xs) q c × (cbc_blocks m iv (text ++ xs) q ≡ sealed_so_far m iv text ++ ys))

-- bytes within the current block are joined
pub sealing-joined : (m : Meaning) (n : ℕ) (s₀ s : CbcSealer) (c : Chain) (X rest ys : List ℕ) (at r : ℕ) → n ≡ m.size → n ≤ 16 → Bytes X
    → rest ≡ drop at X → r ≡ min (n - s.chain.filled) (length rest) → s.chain.filled < n
    → c.filled ≡ s.chain.filled + r
    → c.register ≡ take s.chain.filled s.chain.register ++ joined_front (drop s.chain.filled s.chain.register) (take r rest)
    → SealedCbc m s₀ (take at X) s ys → JoinedCbc m s₀ (take (at + r) X) c ys
sealing-joined m n s₀ s c X rest ys at r es small bytes all er lt fill reg inv = λ o iv text sm hold.
    let was = inv o iv text sm hold in
    let size : o.size ≡ m.size = sm.sizes in
    let r2 : r ≡ min (n - s.chain.filled) (length (drop at X)) = er ∙ ap (λ (x : List ℕ). min (n - s.chain.filled) (length x)) all in
    let run : List ℕ = take r (drop at X) in
    let lrun : length (take r (drop at X)) ≡ r = simp length-take (omega arith) in
    let q : ℕ = whole_blocks o.size (text ++ take at X) in
    let joined : ChainAt o iv ((text ++ take at X) ++ run) q c =
    chain-joined o iv (text ++ take at X) run q s.chain c was.0 (omega arith) (omega arith)
    (All-take (λ x. x < 256) r (drop at X) (All-drop (λ x. x < 256) at X bytes))
    (reg ∙ ap (λ (x : List ℕ). take s.chain.filled s.chain.register ++ joined_front (drop s.chain.filled s.chain.register) (take r x)) all)
    (fill ∙ ap (λ (k : ℕ). s.chain.filled + k) (sym lrun)) in
    let whole : (text ++ take at X) ++ run ≡ text ++ take (at + r) X =
    append_assoc text (take at X) run ∙ ap (λ (x : List ℕ). text ++ x) (sym (take-add at r X)) in
    let pl : length (text ++ take at X) ≡ o.size * whole_blocks o.size (text ++ take at X) + s.chain.filled = was.0.placed in (
      q,
      (
        subst (λ (x : List ℕ). ChainAt o iv x q c) whole joined,
        ap (λ (x : List ℕ). cbc_blocks o iv x q) (sym whole) ∙ cbc-append o iv (text ++ take at X) run q (omega arith) ∙ was.1,
      ),
    )

-- the current block is not whole
pub sealed-short : (m : Meaning) (s₀ : CbcSealer) (c : Chain) (xs ys : List ℕ) → c.filled < m.size → JoinedCbc m s₀ xs c ys → SealedCbc m s₀ xs record { chain = c } ys
sealed-short m s₀ c xs ys lt inv = λ o iv text sm hold.
    let p = inv o iv text sm hold in
    let size : o.size ≡ m.size = sm.sizes in
    let e : whole_blocks o.size (text ++ xs) ≡ p.0 = whole-blocks o.size p.0 c.filled (length (text ++ xs)) p.1.0.placed (omega arith) in
    (subst (λ (q : ℕ). ChainAt o iv (text ++ xs) q c) (sym e) p.1.0, ap (cbc_blocks o iv (text ++ xs)) e ∙ p.1.1)

-- the current block is whole: its cipher text is the register
pub sealed-block : (m o : Meaning) (s₀ : CbcSealer) (c c' : Chain) (xs ys : List ℕ) → Same m o → m.size ≤ c.filled
    → take o.size c'.register ≡ o.forward (take o.size c.register) → length c'.register ≡ 16 → c'.filled ≡ 0
    → JoinedCbc m s₀ xs c ys → JoinedCbc m s₀ xs c' (ys ++ take m.size c'.register)
unfolding joined_to
sealed-block m o s₀ c c' xs ys same full made long begun inv = λ n iv text sm hold.
    let p = inv n iv text sm hold in
    let size : n.size ≡ m.size = sm.sizes in
    let next : ChainAt n iv (text ++ xs) (suc p.0) c' =
    chain-advanced n o iv (text ++ xs) p.0 c c' (same_then n m o sm same) p.1.0 (omega arith) made long begun in
    let z : c'.filled ≡ 0 = begun in
    let pl : length (text ++ xs) ≡ n.size * suc p.0 + c'.filled = next.placed in
    let none : drop (n.size * suc p.0) (text ++ xs) ≡ [] = drop_all (n.size * suc p.0) (text ++ xs) (omega arith) in
    let block : chained n iv (text ++ xs) (suc p.0) ≡ take m.size c'.register =
    sym (ap (λ (k : ℕ). take k c'.register) (sym size) ∙ next.held ∙ ap (joined_front (chained n iv (text ++ xs) (suc p.0))) none) in
    (suc p.0, (next, ap₂ (λ (a b : List ℕ). a ++ b) p.1.1 block ∙ append_assoc (sealed_so_far n iv text) ys (take m.size c'.register)))

-- a whole block more fits where all that become whole fit
pub room_for : (n j f₀ at len room written : ℕ) → 0 < n → written ≡ n * j → written + n ≡ f₀ + at → at ≤ len → n * ((f₀ + len) / n) ≤ room → written + n ≤ room
room_for n j f₀ at len room written pos ew et le h =
    let c : suc j * n ≡ n * suc j = mul_comm (suc j) n in
    let s : n * suc j ≡ n * j + n = mul-suc n j in
    let k : suc j ≤ (f₀ + len) / n = le-div (suc j) (f₀ + len) n pos (omega arith) in
    let m : n * suc j ≤ n * ((f₀ + len) / n) = mul-le-mul_left n k in
    omega arith

-- all that became whole is written
pub all-sealed : (n j f₀ f len written : ℕ) → written ≡ n * j → written + f ≡ f₀ + len → f < n → written ≡ n * ((f₀ + len) / n)
all-sealed n j f₀ f len written ew et lt = ew ∙ ap (λ (k : ℕ). n * k) (sym (whole-blocks n j f (f₀ + len) (omega arith) lt))

-- a block is written behind those before it
pub block-put : (n w : ℕ) (out out₀ W : List ℕ) → length W ≡ n → w + n ≤ length out → drop w out ≡ drop w out₀
    → (take (w + n) (put_mid w (w + n - w) out W) ≡ take w out ++ W) × (drop (w + n) (put_mid w (w + n - w) out W) ≡ drop (w + n) out₀)
block-put n w out out₀ W l room rest = (
  take-put_mid w (w + n - w) out W (w + n) (omega arith) (omega arith),
  drop-put_mid w (w + n - w) out W (w + n) (omega arith) (omega arith) (omega arith) ∙ sym (drop-drop n w out) ∙ ap (drop n) rest ∙ drop-drop n w out₀,
)

pub block_written : (m : Meaning) (n w : ℕ) (reg out out₀ W : List ℕ) → n ≡ m.size → n ≤ 16 → length reg ≡ 16 → w + n ≤ length out → W ≡ take (n - 0) reg
    → drop w out ≡ drop w out₀
    → (take (w + n) (put_mid w (w + n - w) out W) ≡ take w out ++ take m.size reg) × (drop (w + n) (put_mid w (w + n - w) out W) ≡ drop (w + n) out₀)
block_written m n w reg out out₀ W es small lr room ew rest =
    let z : n - 0 ≡ m.size = omega arith in
    let e : W ≡ take m.size reg = ew ∙ ap (λ (k : ℕ). take k reg) z in
    let l : length W ≡ n = ap length e ∙ simp length-take (omega arith) in
    let p = block-put n w out out₀ W l room rest in
    (p.0 ∙ ap (λ (x : List ℕ). take w out ++ x) e, p.1)

-- a sealer whose current block is never whole
settled : (m : Meaning) (iv text : List ℕ) (s : CbcSealer) → CbcAt m iv text s → s.chain.filled < m.size
settled m iv text s h =
    let p : length text ≡ m.size * whole_blocks m.size text + s.chain.filled = h.placed in
    let d : length text / m.size * m.size + length text % m.size ≡ length text = div-add-mod' (length text) m.size in
    let c : length text / m.size * m.size ≡ m.size * (length text / m.size) = mul_comm (length text / m.size) m.size in
    let r : length text % m.size < m.size = mod-lt (length text) (size-pos m h.lawful) in
    omega arith

-- a sealer fed with the remainder is fed as it was
pub fed-settled : (m : Meaning) (s s' : CbcSealer) (xs ys : List ℕ)
    → SealedCbc m record { chain = record { register = s.chain.register; filled = s.chain.filled % m.size } } xs s' ys → SealedCbc m s xs s' ys
fed-settled m s s' xs ys inv = λ o iv text sm hold.
    let size : o.size ≡ m.size = sm.sizes in
    let small : s.chain.filled < m.size = omega (arith, settled o iv text s hold) in
    let same : s.chain.filled % m.size ≡ s.chain.filled = mod-eq_of_lt small in
    inv o iv text sm (subst (λ (k : ℕ). CbcAt o iv text record { chain = record { register = s.chain.register; filled = k } }) (sym same) hold)

-- the filled block ends the cipher text
pub finished-cbc : (m o : Meaning) (n : ℕ) (s : CbcSealer) (c' : Chain) (reg iv text : List ℕ) → Same m o → CbcAt m iv text s → n ≡ m.size
    → reg ≡ set s.chain.register (s.chain.filled % n) (bit_xor (get_or s.chain.register (s.chain.filled % n) 0) 128)
    → take o.size c'.register ≡ o.forward (take o.size reg) → length c'.register ≡ 16 → c'.filled ≡ 0
    → cbc_sealed m iv text ≡ sealed_so_far m iv text ++ take m.size c'.register
unfolding joined_to
finished-cbc m o n s c' reg iv text same h es er made long begun =
    let q : ℕ = whole_blocks m.size text in
    let lt : s.chain.filled < m.size = settled m iv text s h in
    let rest : s.chain.filled % n ≡ s.chain.filled = ap (λ (k : ℕ). s.chain.filled % k) es ∙ mod-eq_of_lt lt in
    let er2 : reg ≡ set s.chain.register s.chain.filled (bit_xor (get_or s.chain.register s.chain.filled 0) 128) =
    er ∙ ap (λ (k : ℕ). set s.chain.register k (bit_xor (get_or s.chain.register k 0) 128)) rest in
    let full : ChainAt m iv (filled m.size text) (whole_blocks m.size text) record { register = reg; filled = m.size } =
    chain-filled m iv text (whole_blocks m.size text) s.chain record { register = reg; filled = m.size } h lt (size-high m h.lawful) er2 refl in
    let next : ChainAt m iv (filled m.size text) (suc (whole_blocks m.size text)) c' =
    chain-advanced m o iv (filled m.size text) (whole_blocks m.size text) record { register = reg; filled = m.size } c' same full (omega arith) made long begun in
    let z : c'.filled ≡ 0 = begun in
    let pl : length (filled m.size text) ≡ m.size * suc (whole_blocks m.size text) + c'.filled = next.placed in
    let none : drop (m.size * suc (whole_blocks m.size text)) (filled m.size text) ≡ [] = drop_all (m.size * suc (whole_blocks m.size text)) (filled m.size text) (omega arith) in
    let block : chained m iv (filled m.size text) (suc (whole_blocks m.size text)) ≡ take m.size c'.register =
    sym (next.held ∙ ap (joined_front (chained m iv (filled m.size text) (suc (whole_blocks m.size text)))) none) in
    let tp : length text ≡ m.size * whole_blocks m.size text + s.chain.filled = h.placed in
    ap (cbc_blocks m iv (filled m.size text)) (add-one (length text / m.size))
    ∙ ap₂ (λ (a b : List ℕ). a ++ b) (cbc-append m iv text (128 ∷ zeros (m.size - 1 - length text % m.size)) (whole_blocks m.size text) (omega arith)) block

-- the answer where there is room
pub out-ok : (need room k : ℕ) → k ≡ need → need ≤ room → ◌≡◌ {A = Result ℕ CbcFault} (Ok k) (out_answer need room)
out-ok need room k e h =
    let f : ℕ → Result ℕ CbcFault = λ x. Ok x in
    cond_above room need (Err ShortOutput) (Ok need) (Ok k) h (ap f e)

-- a block at the front of the output
pub front-written : (m : Meaning) (n : ℕ) (reg out W : List ℕ) → n ≡ m.size → n ≤ 16 → length reg ≡ 16 → W ≡ take (n - 0) reg
    → (take n (W ++ post_of 0 (n - 0) out) ≡ take m.size reg) × (drop n (W ++ post_of 0 (n - 0) out) ≡ drop n out)
front-written m n reg out W es small lr ew =
    let z : n - 0 ≡ n = omega arith in
    let e : W ≡ take n reg = ew ∙ ap (λ (k : ℕ). take k reg) z in
    let l : length W ≡ n = ap length e ∙ simp length-take (omega arith) in
    (take_at W (post_of 0 (n - 0) out) n l ∙ e ∙ ap (λ (k : ℕ). take k reg) es, drop_at W (post_of 0 (n - 0) out) n l ∙ ap (λ (k : ℕ). drop k out) z)
