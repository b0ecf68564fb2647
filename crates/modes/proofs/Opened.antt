-- How cbc is opened piece by piece.
use Rattle.std.proofs.Common.{◌≡◌, ℕ, zero, suc, ◌+◌, ◌-◌, ◌*◌, ◌/◌, ◌%◌, ◌<◌, ◌≤◌, min, Bool, true, false, cond, ◌&&◌, eqb, ltb, ◌⊎◌, List, [], ◌++◌, length, get_or, take, drop, Ok, Err, Result, sym, refl, ap, ◌∙◌, subst, ap₂, ⊎_elim, mod-lt, mod-eq_of_lt, mul_comm, mul-le-mul_left, mul-suc, add-one, arith, take-add}
use borrow.Rule.Slice.PartMut.{put_mid}
use Rattle.std.proofs.lemmas.Nat.{le-div, div-add-mod'}
use Rattle.std.proofs.ByRecursion.{All-append, All-take, All-drop}
use Rattle.std.proofs.lemmas.List.{append-nil, append_assoc, length-append, length-take, length-drop, take_all, take_at, drop_all, drop-append-le}
use Rattle.std.proofs.lemmas.Slice.{take-put_mid}
use Rattle.std.proofs.lemmas.Bool.{cases_lt, eq-eqb, ne_eqb, cond_above, and_parts, ltb-true}
use Rattle.block.proofs.Bytes.{length-xor}
use Rattle.block.specs.Blocks.{Block, Meaning, Lawful, Same, Bytes}
use Rattle.modes_spec.specs.Cbc.{register_at, opened_block, opened_blocks}
use Rattle.modes_spec.specs.Texts.{◌⊕◌, block_at, joined_front, joined_to, zeros}
use Rattle.modes_spec.proofs.Cbc.{size-pos, block-whole}
use Rattle.modes_spec.proofs.Texts.{block-append, joined_same, joined-front-whole, length-put_mid}
use Rattle.modes.specs.OpenState.{OpeningAt, CbcOpenAt, OpenedCbc, opened_so_far, opened_count, opened_next, settled_fill, take_answer, fills, all_zeros}
use Rattle.modes.specs.declared.cbc.CbcFault.{CbcFault}
use Rattle.modes.specs.declared.cbc.CbcFault.TheVariants.{ShortOutput, TooLong}
use Rattle.modes.specs.declared.opening.CbcOpener.{CbcOpener}
use Rattle.modes.proofs.Sealing.{whole-blocks}
use Rattle.modes.proofs.Streams.{same_then}

-- ---- what the calls leave

pub collected : (block piece W : List ℕ) (f r : ℕ) → length block ≡ 16 → f + r ≤ 16 → r ≤ length piece → W ≡ take (r - 0) piece
    → (take (f + r) (put_mid f (f + r - f) block W) ≡ take f block ++ take r piece) × (length (put_mid f (f + r - f) block W) ≡ 16)
collected block piece W f r lb h lp ew =
    let z : r - 0 ≡ r = omega arith in
    let e : W ≡ take r piece = ew ∙ ap (λ (k : ℕ). take k piece) z in
    let l : length W ≡ r = ap length e ∙ simp length-take (omega arith) in (
      take-put_mid f (f + r - f) block W (f + r) (omega arith) (omega arith) ∙ ap (λ (x : List ℕ). take f block ++ x) e,
      length-put_mid f (f + r - f) block W (omega arith) (omega arith) ∙ lb,
    )

pub block-opened : (m : Meaning) (n : ℕ) (block previous C D J : List ℕ) → n ≡ m.size → n ≤ 16 → length block ≡ 16 → length previous ≡ 16
    → C ≡ take (n - 0) block → length D ≡ length C → D ≡ m.inverse C → J ≡ joined_front D (take (n - 0) previous)
    → J ≡ m.inverse (take m.size block) ⊕ take m.size previous
block-opened m n block previous C D J es small lb lp ec ld ed ej =
    let z : n - 0 ≡ m.size = omega arith in
    let c2 : C ≡ take m.size block = ec ∙ ap (λ (k : ℕ). take k block) z in
    let lc : length C ≡ m.size = ap length c2 ∙ simp length-take (omega arith) in
    let d2 : D ≡ m.inverse (take m.size block) = ed ∙ ap m.inverse c2 in
    let lq : length (take m.size previous) ≡ m.size = simp length-take (omega arith) in
    ej ∙ ap (λ (k : ℕ). joined_front D (take k previous)) z ∙ joined-front-whole D (take m.size previous) (ld ∙ lc ∙ sym lq) ∙ ap (λ (x : List ℕ). x ⊕ take m.size previous) d2

-- ---- what is opened does not depend on what comes

register-append : (n : ℕ) (iv xs ys : List ℕ) (q : ℕ) → n * q ≤ length xs → register_at n iv (xs ++ ys) q ≡ register_at n iv xs q
register-append n iv xs ys zero h = refl
register-append n iv xs ys (suc q) h = let e : n * suc q ≡ n * q + n = mul-suc n q in block-append n xs ys q (omega arith)

opened-append : (m : Meaning) (iv xs ys : List ℕ) (q : ℕ) → m.size * q ≤ length xs → opened_blocks m iv (xs ++ ys) q ≡ opened_blocks m iv xs q
opened-append m iv xs ys q h =
    joined_same (opened_block m iv (xs ++ ys)) (opened_block m iv xs) q
    (λ i l.
    let s : m.size * suc i ≤ m.size * q = mul-le-mul_left m.size (omega arith) in
    let e : m.size * suc i ≡ m.size * i + m.size = mul-suc m.size i in
    ap₂ (λ (a b : List ℕ). m.inverse a ⊕ b) (block-append m.size xs ys i (omega arith)) (register-append m.size iv xs ys i (omega arith)))

-- ---- steps

-- bytes of the current block are collected
opening-collected : (m : Meaning) (iv text ys : List ℕ) (before q : ℕ) (s s' : CbcOpener) → OpeningAt m iv text before q s → Bytes ys → s.filled + length ys ≤ m.size
    → s'.filled ≡ s.filled + length ys → take (s.filled + length ys) s'.block ≡ take s.filled s.block ++ ys → length s'.block ≡ 16
    → s'.previous ≡ s.previous → s'.left ≡ s.left → OpeningAt m iv (text ++ ys) before q s'
opening-collected m iv text ys before q s s' h bytes fits fill copied long prev left =
    let p : length text ≡ m.size * q + s.filled = h.placed in
    record {
      lawful = h.lawful;
      begun = h.begun;
      bytes = All-append (λ x. x < 256) text ys h.bytes bytes;
      long = long;
      counted = ap (λ (k : ℕ). q + k) left ∙ h.counted;
      within = omega arith;
      placed = length-append text ys ∙ omega arith;
      register = ap (take m.size) prev ∙ h.register ∙ sym (register-append m.size iv text ys q (omega arith));
      current =
          ap (λ (k : ℕ). take k s'.block) fill ∙ copied ∙ ap (λ (x : List ℕ). x ++ ys) h.current
          ∙ sym (drop-append-le (m.size * q) text ys (omega arith));
    }

-- a whole block before the last is opened
opening-next : (m : Meaning) (iv text : List ℕ) (before q : ℕ) (s s' : CbcOpener) → OpeningAt m iv text before q s → m.size ≤ s.filled
    → (s'.previous ≡ s.block) × (s'.block ≡ s.block) × (s'.filled ≡ 0) × (s'.left + 1 ≡ s.left) → OpeningAt m iv text before (suc q) s'
opening-next m iv text before q s s' h full step =
    let w : s.filled ≤ m.size = h.within in
    let p : length text ≡ m.size * q + s.filled = h.placed in
    let e : m.size * suc q ≡ m.size * q + m.size = mul-suc m.size q in
    let f : s.filled ≡ m.size = omega arith in
    let z : s'.filled ≡ 0 = step.2 in
    let k : q + s.left ≡ before = h.counted in
    let l : s'.left + 1 ≡ s.left = step.3 in
    let whole : take m.size s.block ≡ block_at m.size text q =
    ap (λ (n : ℕ). take n s.block) (sym f) ∙ h.current ∙ sym (take_all m.size (drop (m.size * q) text) (simp length-drop (omega arith))) in
    record {
      lawful = h.lawful;
      begun = h.begun;
      bytes = h.bytes;
      long = ap length step.1 ∙ h.long;
      counted = omega arith;
      within = omega arith;
      placed = omega arith;
      register = ap (take m.size) step.0 ∙ whole;
      current = ap (λ (n : ℕ). take n s'.block) z ∙ sym (drop_all (m.size * suc q) text (omega arith));
    }

-- the plain text of the current block, once it is whole
pub opening-block : (m o : Meaning) (iv text : List ℕ) (before q : ℕ) (s : CbcOpener) (J : List ℕ) → Same m o → OpeningAt m iv text before q s → m.size ≤ s.filled
    → J ≡ o.inverse (take o.size s.block) ⊕ take o.size s.previous → J ≡ opened_block m iv text q
opening-block m o iv text before q s J same h full ej =
    let w : s.filled ≤ m.size = h.within in
    let p : length text ≡ m.size * q + s.filled = h.placed in
    let f : s.filled ≡ m.size = omega arith in
    let whole : take m.size s.block ≡ block_at m.size text q =
    ap (λ (n : ℕ). take n s.block) (sym f) ∙ h.current ∙ sym (take_all m.size (drop (m.size * q) text) (simp length-drop (omega arith))) in
    ej
    ∙ ap (λ (n : ℕ). o.inverse (take n s.block) ⊕ take n s.previous) (sym same.sizes)
    ∙ ap₂ (λ (a b : List ℕ). o.inverse a ⊕ b) whole h.register
    ∙ ap (λ (a : List ℕ). a ⊕ register_at m.size iv text q) (sym (same.inverses _ (block-whole m.size text q h.bytes (omega arith))))

-- an opened block has n bytes
opened-long : (m : Meaning) (iv text : List ℕ) (i : ℕ) → Lawful m → Block m.size iv → Bytes text → m.size * i + m.size ≤ length text → length (opened_block m iv text i) ≡ m.size
opened-long m iv text zero l b h fits =
    let d : length (m.inverse (block_at m.size text 0)) ≡ m.size = (l.inverse-block _ (block-whole m.size text 0 h fits)).long in
    length-xor (m.inverse (block_at m.size text 0)) iv ∙ omega (arith, b.long)
opened-long m iv text (suc i) l b h fits =
    let d : length (m.inverse (block_at m.size text (suc i))) ≡ m.size = (l.inverse-block _ (block-whole m.size text (suc i) h fits)).long in
    let e : m.size * suc i ≡ m.size * i + m.size = mul-suc m.size i in
    let r : length (block_at m.size text i) ≡ m.size = (block-whole m.size text i h (omega arith)).long in
    length-xor (m.inverse (block_at m.size text (suc i))) (block_at m.size text i) ∙ omega arith

-- ---- how many blocks are opened

pub count-short : (m : Meaning) (iv text : List ℕ) (before q : ℕ) (s : CbcOpener) → OpeningAt m iv text before q s → s.filled < m.size → opened_count m.size before text ≡ q
count-short m iv text before q s h lt =
    let k : q + s.left ≡ before = h.counted in
    let d : length text / m.size ≡ q = whole-blocks m.size q s.filled (length text) h.placed lt in
    omega arith

pub count-last : (m : Meaning) (iv text : List ℕ) (before q : ℕ) (s : CbcOpener) → OpeningAt m iv text before q s → s.left ≡ 0 → opened_count m.size before text ≡ q
count-last m iv text before q s h none =
    let k : q + s.left ≡ before = h.counted in
    let p : length text ≡ m.size * q + s.filled = h.placed in
    let c : q * m.size ≡ m.size * q = mul_comm q m.size in
    let d : q ≤ length text / m.size = le-div q (length text) m.size (size-pos m h.lawful) (omega arith) in
    omega arith

-- while blocks are left before the last, the current one is not whole
pub current-short : (m : Meaning) (iv text : List ℕ) (before : ℕ) (s : CbcOpener) → CbcOpenAt m iv before text s → 0 < s.left → s.filled < m.size
current-short m iv text before s h some =
    let n : ℕ = m.size in
    let k : opened_count m.size before text + s.left ≡ before = h.counted in
    let p : length text ≡ m.size * opened_count m.size before text + s.filled = h.placed in
    let q : opened_count m.size before text ≡ length text / m.size = omega arith in
    let p2 : length text ≡ m.size * (length text / m.size) + s.filled = p ∙ ap (λ (x : ℕ). m.size * x + s.filled) q in
    let d : length text / m.size * m.size + length text % m.size ≡ length text = div-add-mod' (length text) m.size in
    let c : length text / m.size * m.size ≡ m.size * (length text / m.size) = mul_comm (length text / m.size) m.size in
    let r : length text % m.size < m.size = mod-lt (length text) (size-pos m h.lawful) in
    omega arith

-- ---- the loop over a piece

-- the cipher text is taken in, and ys is the plain text of some number of its blocks; the current block may have become whole
abbrev pub CollectedCbc : Meaning → CbcOpener → List ℕ → CbcOpener → List ℕ → Type 0
CollectedCbc cipher s₀ xs s ys =
    (m : Meaning) (iv text : List ℕ) (before : ℕ) → Same m cipher → CbcOpenAt m iv before text s₀
    → (q : ℕ) × (OpeningAt m iv (text ++ xs) before q s × (opened_blocks m iv (text ++ xs) q ≡ opened_so_far m iv before text ++ ys))

pub collected-none : (m : Meaning) (s : CbcOpener) (X : List ℕ) → CollectedCbc m s (take 0 X) s []
collected-none m s X = λ o iv text before sm hold. (
  opened_count o.size before text,
  (
    subst (λ (x : List ℕ). OpeningAt o iv x before (opened_count o.size before text) s) (sym (append-nil text)) hold,
    ap (λ (x : List ℕ). opened_blocks o iv x (opened_count o.size before text)) (append-nil text) ∙ sym (append-nil (opened_so_far o iv before text)),
  ),
)

pub collected-turn : (m : Meaning) (n : ℕ) (s₀ s s' : CbcOpener) (X rest ys : List ℕ) (at r : ℕ) → n ≡ m.size → Bytes X
    → rest ≡ drop at X → r ≡ min (n - s.filled) (length rest) → s.filled ≤ n
    → s'.filled ≡ s.filled + r
    → (take (s.filled + r) s'.block ≡ take s.filled s.block ++ take r rest) × (length s'.block ≡ 16)
    → (s'.previous ≡ s.previous) × (s'.left ≡ s.left)
    → CollectedCbc m s₀ (take at X) s ys → CollectedCbc m s₀ (take (at + r) X) s' ys
collected-turn m n s₀ s s' X rest ys at r es bytes all er le fill copied kept inv = λ o iv text before sm hold.
    let was = inv o iv text before sm hold in
    let q : ℕ = was.0 in
    let size : o.size ≡ m.size = sm.sizes in
    let r2 : r ≡ min (n - s.filled) (length (drop at X)) = er ∙ ap (λ (x : List ℕ). min (n - s.filled) (length x)) all in
    let run : List ℕ = take r (drop at X) in
    let lrun : length (take r (drop at X)) ≡ r = simp length-take (omega arith) in
    let next : OpeningAt o iv ((text ++ take at X) ++ run) before was.0 s' =
    opening-collected o iv (text ++ take at X) run before was.0 s s' was.1.0
    (All-take (λ x. x < 256) r (drop at X) (All-drop (λ x. x < 256) at X bytes)) (omega arith) (fill ∙ ap (λ (k : ℕ). s.filled + k) (sym lrun))
    (ap (λ (k : ℕ). take (s.filled + k) s'.block) lrun ∙ copied.0 ∙ ap (λ (x : List ℕ). take s.filled s.block ++ take r x) all) copied.1 kept.0 kept.1 in
    let whole : (text ++ take at X) ++ run ≡ text ++ take (at + r) X =
    append_assoc text (take at X) run ∙ ap (λ (x : List ℕ). text ++ x) (sym (take-add at r X)) in
    let p : length (text ++ take at X) ≡ o.size * was.0 + s.filled = was.1.0.placed in (
      was.0,
      (
        subst (λ (x : List ℕ). OpeningAt o iv x before was.0 s') whole next,
        ap (λ (x : List ℕ). opened_blocks o iv x was.0) (sym whole) ∙ opened-append o iv (text ++ take at X) run was.0 (omega arith) ∙ was.1.1,
      ),
    )

pub opened-turn : (m o : Meaning) (s₀ s s' : CbcOpener) (xs ys J : List ℕ) → Same m o → m.size ≤ s.filled
    → J ≡ o.inverse (take o.size s.block) ⊕ take o.size s.previous
    → (s'.previous ≡ s.block) × (s'.block ≡ s.block) × (s'.filled ≡ 0) × (s'.left + 1 ≡ s.left)
    → CollectedCbc m s₀ xs s ys → CollectedCbc m s₀ xs s' (ys ++ J)
unfolding joined_to
opened-turn m o s₀ s s' xs ys J same full ej step inv = λ n iv text before sm hold.
    let was = inv n iv text before sm hold in
    let size : n.size ≡ m.size = sm.sizes in (
      suc was.0,
      (
        opening-next n iv (text ++ xs) before was.0 s s' was.1.0 (omega arith) step,
        ap₂ (λ (a b : List ℕ). a ++ b) was.1.1 (sym (opening-block n o iv (text ++ xs) before was.0 s J (same_then n m o sm same) was.1.0 (omega arith) ej))
            ∙ append_assoc (opened_so_far n iv before text) ys J,
      ),
    )

-- what is collected is opened as far as it should be
pub opened-all : (m : Meaning) (s₀ s : CbcOpener) (xs ys : List ℕ) → (s.left ≡ 0) ⊎ (s.filled < m.size) → CollectedCbc m s₀ xs s ys → OpenedCbc m s₀ xs s ys
opened-all m s₀ s xs ys how inv = λ o iv text before sm hold.
    let was = inv o iv text before sm hold in
    let size : o.size ≡ m.size = sm.sizes in
    let e : opened_count o.size before (text ++ xs) ≡ was.0 =
    ⊎_elim
    (λ (none : s.left ≡ 0). count-last o iv (text ++ xs) before was.0 s was.1.0 none)
    (λ (short : s.filled < m.size). count-short o iv (text ++ xs) before was.0 s was.1.0 (omega arith)) how in
    (subst (λ (q : ℕ). OpeningAt o iv (text ++ xs) before q s) (sym e) was.1.0, ap (opened_blocks o iv (text ++ xs)) e ∙ was.1.1)

-- ---- numbers

-- a block more fits where all that are opened fit
pub room-for-opened : (n j f₀ at len left₀ room written : ℕ) → 0 < n → written ≡ n * j → written + n ≡ f₀ + at → at ≤ len → suc j ≤ left₀
    → n * min ((f₀ + len) / n) left₀ ≤ room → written + n ≤ room
room-for-opened n j f₀ at len left₀ room written pos ew et le lt h =
    let c : suc j * n ≡ n * suc j = mul_comm (suc j) n in
    let s : n * suc j ≡ n * j + n = mul-suc n j in
    let k : suc j ≤ (f₀ + len) / n = le-div (suc j) (f₀ + len) n pos (omega arith) in
    let b : suc j ≤ min ((f₀ + len) / n) left₀ = omega arith in
    let m : n * suc j ≤ n * min ((f₀ + len) / n) left₀ = mul-le-mul_left n b in
    omega arith

-- what is left of the piece fits the last block
pub last_fits : (n f₀ f at len left₀ j written : ℕ) → written ≡ n * j → written + f ≡ f₀ + at → j ≡ left₀ → f₀ + len ≤ n * (left₀ + 1) → at ≤ len → len - at ≤ n - f
last_fits n f₀ f at len left₀ j written ew et ej h le =
    let e : n * j ≡ n * left₀ = ap (λ (k : ℕ). n * k) ej in
    let s : n * suc left₀ ≡ n * left₀ + n = mul-suc n left₀ in
    let h2 : f₀ + len ≤ n * suc left₀ = rw (add-one left₀) at h in
    omega arith

-- all that should be opened is written
pub all-opened : (n f₀ f at len left₀ left j written : ℕ) → 0 < n → written ≡ n * j → written + f ≡ f₀ + at → j + left ≡ left₀ → at ≤ len
    → ((left ≡ 0) ⊎ ((at ≡ len) × (f < n))) → written ≡ n * min ((f₀ + len) / n) left₀
all-opened n f₀ f at len left₀ left j written pos ew et ej le how =
    let e : min ((f₀ + len) / n) left₀ ≡ j =
    ⊎_elim
    (λ (none : left ≡ 0).
    let c : j * n ≡ n * j = mul_comm j n in
    let d : j ≤ (f₀ + len) / n = le-div j (f₀ + len) n pos (omega arith) in
    omega arith)
    (λ (p : (at ≡ len) × (f < n)).
    let a : at ≡ len = p.0 in
    let d : (f₀ + len) / n ≡ j = whole-blocks n j f (f₀ + len) (omega arith) p.1 in
    omega arith)
    how in
    ew ∙ ap (λ (k : ℕ). n * k) (sym e)

-- ---- a piece taken whole or not at all

-- what is filled is settled already
settled_same : (o : Meaning) (iv text : List ℕ) (before n : ℕ) (s : CbcOpener) → CbcOpenAt o iv before text s → o.size ≡ n → settled_fill n s.left s.filled ≡ s.filled
settled_same o iv text before n s h e =
    let w : s.filled ≤ o.size = h.within in
    ⊎_elim
    (λ (some : 0 < s.left).
    let lt : s.filled < o.size = current-short o iv text before s h some in
    let no : eqb s.left 0 ≡ false = ne_eqb s.left 0 (λ (z : s.left ≡ 0). omega arith) in
    let lt2 : s.filled < n = omega arith in
    ap (λ (b : Bool). cond b (min s.filled n) (s.filled % n)) no ∙ mod-eq_of_lt lt2)
    (λ (none : s.left ≤ 0).
    let yes : eqb s.left 0 ≡ true = eq-eqb s.left 0 (omega arith) in
    ap (λ (b : Bool). cond b (min s.filled n) (s.filled % n)) yes ∙ omega arith)
    (cases_lt 0 s.left)

abbrev refilled_with : CbcOpener → ℕ → CbcOpener
refilled_with s k = record { previous = s.previous; block = s.block; filled = k; left = s.left }

pub taken-settled : (m : Meaning) (s s' : CbcOpener) (xs ys : List ℕ)
    → OpenedCbc m record { previous = s.previous; block = s.block; filled = settled_fill m.size s.left s.filled; left = s.left } xs s' ys → OpenedCbc m s xs s' ys
taken-settled m s s' xs ys inv = λ o iv text before sm hold.
    inv o iv text before sm
    (subst (λ (k : ℕ). CbcOpenAt o iv before text (refilled_with s k)) (sym (settled_same o iv text before m.size s hold sm.sizes)) hold)

pub take-ok : (n filled left len room k : ℕ) → k ≡ opened_next n filled left len → filled + len ≤ n * (left + 1) → opened_next n filled left len ≤ room
    → ◌≡◌ {A = Result ℕ CbcFault} (Ok k) (take_answer n filled left len room)
take-ok n filled left len room k e fits h =
    let f : ℕ → Result ℕ CbcFault = λ x. Ok x in
    cond_above (n * (left + 1)) (filled + len) (Err TooLong) _ (Ok k) fits
    (cond_above room (opened_next n filled left len) (Err ShortOutput) (Ok (opened_next n filled left len)) (Ok k) h (ap f e))

-- ---- the last block

last-count : (o : Meaning) (iv text : List ℕ) (before : ℕ) (s : CbcOpener) → CbcOpenAt o iv before text s → s.left ≡ 0 → opened_count o.size before text ≡ before
last-count o iv text before s h none = let k : opened_count o.size before text + s.left ≡ before = h.counted in omega arith

-- a whole last block: what the opened bytes are, and whether they are filled
pub last-whole : (m o : Meaning) (n : ℕ) (iv text : List ℕ) (before rest : ℕ) (s : CbcOpener) (L : List ℕ) → Same m o → CbcOpenAt m iv before text s → n ≡ o.size
    → s.left ≡ 0 → n ≤ s.filled → L ≡ (o.inverse (take o.size s.block) ⊕ take o.size s.previous) ++ zeros (16 - o.size)
    → (eqb (length text) (m.size * (before + 1)) ≡ true) × (L ≡ opened_block m iv text before ++ zeros (16 - m.size))
    × (fills (length (take (n - 0) L)) rest (take (n - 0) L) ≡ fills m.size rest (opened_block m iv text before))
last-whole m o n iv text before rest s L same h es none full el =
    let q : opened_count m.size before text ≡ before = last-count m iv text before s h none in
    let w : s.filled ≤ m.size = h.within in
    let size : m.size ≡ o.size = same.sizes in
    let at : OpeningAt m iv text before before s = subst (λ (k : ℕ). OpeningAt m iv text before k s) q h in
    let p : length text ≡ m.size * before + s.filled = at.placed in
    let b : m.size * suc before ≡ m.size * before + m.size = mul-suc m.size before in
    let whole : length text ≡ m.size * suc before = omega arith in
    let block : o.inverse (take o.size s.block) ⊕ take o.size s.previous ≡ opened_block m iv text before =
    opening-block m o iv text before before s _ same at (omega arith) refl in
    let l : L ≡ opened_block m iv text before ++ zeros (16 - m.size) = el ∙ ap₂ (λ (a : List ℕ) (k : ℕ). a ++ zeros (16 - k)) block (sym size) in
    let long : length (opened_block m iv text before) ≡ m.size = opened-long m iv text before at.lawful at.begun at.bytes (omega arith) in
    let z : n - 0 ≡ m.size = omega arith in
    let front : take (n - 0) L ≡ opened_block m iv text before =
    ap₂ (λ (k : ℕ) (a : List ℕ). take k a) z l ∙ take_at (opened_block m iv text before) (zeros (16 - m.size)) m.size long in (
      ap (λ (x : ℕ). eqb (length text) (m.size * x)) (add-one before) ∙ eq-eqb (length text) (m.size * suc before) whole,
      l,
      ap (λ (a : List ℕ). fills (length a) rest a) front ∙ ap (λ (k : ℕ). fills k rest (opened_block m iv text before)) long,
    )

-- the text of a filled block is shorter than the block
pub fills-within : (n rest : ℕ) (block : List ℕ) → true ≡ fills n rest block → rest < n
fills-within n rest block e =
    let outer = and_parts (ltb rest n && eqb (get_or block rest 0) 128) (all_zeros (drop (rest + 1) block)) (sym e) in
    ltb-true rest n (and_parts (ltb rest n) (eqb (get_or block rest 0) 128) outer.0).0
