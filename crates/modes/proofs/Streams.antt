-- How a ctr stream begins and goes on.
use Rattle.std.proofs.Common.{◌≡◌, ℕ, suc, ◌+◌, ◌-◌, ◌*◌, ◌/◌, ◌%◌, ◌^◌, ◌<◌, ◌≤◌, min, List, [], ◌++◌, length, take, drop, replicate, sym, refl, ap, ◌∙◌, subst, ap₂, ⊎_elim, mul-zero, mul-suc, add-one, arith, take-add}
use native.Mathlib.Nat.{mod-add-mod}
use borrow.Rule.Slice.PartMut.{put_mid, post_of}
use Rattle.std.proofs.ByRecursion.{All-take}
use Rattle.std.proofs.lemmas.List.{append_assoc, length-append, length-take, length-drop, take_at, take-take, drop-take, drop-drop, take_rest}
use Rattle.std.proofs.lemmas.Slice.{take-put_mid}
use Rattle.std.proofs.lemmas.Bool.{cases_lt}
use Rattle.block.specs.Blocks.{Block, Meaning, Lawful, Same, Bytes}
use Rattle.modes_spec.specs.Texts.{◌⊕◌, joined_front, big_endian}
use Rattle.modes_spec.specs.Ctr.{counter_block, counter_stream, ctr}
use Rattle.modes_spec.proofs.Cbc.{size-pos}
use Rattle.modes_spec.proofs.Ctr.{joined-run, counter-block, stream-long}
use Rattle.modes_spec.proofs.Texts.{xor-cut, length-put_mid, behind-written, length-joined-front, front-joined-front, drop-joined-front}
use Rattle.modes_spec.proofs.Numbers.{length-big_endian, big_endian-mod}
use Rattle.modes.specs.CtrState.{CtrAt, JoinedCtr}
use Rattle.modes.specs.declared.ctr.CtrStream.{CtrStream}

pub begun-ctr : (m : Meaning) (start : List ℕ) → Lawful m → length start ≡ 16 → Bytes start
    → CtrAt m (take (m.size / 2) start) [] record { start = start; next = 0; keystream = replicate 16 0; used = 16 }
begun-ctr m start l long bytes =
    let high : m.size ≤ 16 = ⊎_elim (λ (e : m.size ≡ 8). omega arith) (λ (e : m.size ≡ 16). omega arith) l.sized in
    record {
      lawful = l;
      begun = record {
        long = simp length-take (omega arith);
        bytes = All-take (λ x. x < 256) (m.size / 2) start bytes;
      };
      held = refl;
      long = refl;
      made = 0;
      counted = refl;
      placed = omega (arith, mul-zero m.size);
      current = λ h. absurd (omega arith);
    }

-- a counter block put together in a block's front, and enciphered
pub counter-made : (m : Meaning) (n i : ℕ) (start block A B X : List ℕ)
    → n ≡ m.size → 8 ≤ n → n ≤ 16 → n / 2 + n / 2 ≡ n → length start ≡ 16 → length block ≡ 16
    → A ≡ take (n / 2 - 0) start
    → B ≡ big_endian (length (take (n - n / 2) (drop (n / 2) (A ++ post_of 0 (n / 2 - 0) block)))) i
    → length X ≡ length (take (n - 0) (put_mid (n / 2) (n - n / 2) (A ++ post_of 0 (n / 2 - 0) block) B))
    → X ≡ m.forward (take (n - 0) (put_mid (n / 2) (n - n / 2) (A ++ post_of 0 (n / 2 - 0) block) B))
    → take m.size (X ++ post_of 0 (n - 0) (put_mid (n / 2) (n - n / 2) (A ++ post_of 0 (n / 2 - 0) block) B)) ≡ m.forward (counter_block m.size (take (m.size / 2) start) i)
counter-made m n i start block A B X es lo hi even ls lb ea eb lx ex =
    let h : ℕ = n / 2 in
    let P1 : List ℕ = A ++ post_of 0 (h - 0) block in
    let P2 : List ℕ = put_mid h (n - h) P1 B in
    let z : h - 0 ≡ h = omega arith in
    let z2 : n - 0 ≡ n = omega arith in
    let ea2 : A ≡ take h start = rw z at ea in
    let la : length A ≡ h = ap length ea2 ∙ simp length-take (omega arith) in
    let l1 : length P1 ≡ 16 = simp (length-append, length-drop) (omega arith) in
    let lb0 : length (take (n - h) (drop h P1)) ≡ h = simp (length-take, length-drop) (omega arith) in
    let eb2 : B ≡ big_endian h i = rw lb0 at eb in
    let lb2 : length B ≡ h = ap length eb2 ∙ length-big_endian h i in
    let t : take n P2 ≡ A ++ B = take-put_mid h (n - h) P1 B n (omega arith) (omega arith) ∙ ap (λ (x : List ℕ). x ++ B) (take_at A (post_of 0 (h - 0) block) h la) in
    let t2 : take (n - 0) P2 ≡ counter_block n (take h start) i =
    ap (λ (x : ℕ). take x P2) z2 ∙ t ∙ ap₂ (λ (x y : List ℕ). x ++ y) ea2 eb2 in
    let lt : length (take (n - 0) P2) ≡ n = ap length (ap (λ (x : ℕ). take x P2) z2 ∙ t) ∙ simp length-append (omega arith) in
    let ex2 : X ≡ m.forward (counter_block n (take h start) i) =
    ex ∙ ap m.forward t2 in
    take_at X (post_of 0 (n - 0) P2) m.size (lx ∙ lt ∙ es) ∙ ex2 ∙ ap (λ (x : ℕ). m.forward (counter_block x (take (x / 2) start) i)) es

add-sub : (u n : ℕ) → u ≤ n → u + (n - u) ≡ n
add-sub u n h = omega arith

pub same_then : (m o p : Meaning) → Same m o → Same o p → Same m p
same_then m o p s t = record {
  sizes = s.sizes ∙ t.sizes;
  forwards = λ b h. s.forwards b h ∙ t.forwards b (subst (λ (n : ℕ). Block n b) s.sizes h);
  inverses = λ b h. s.inverses b h ∙ t.inverses b (subst (λ (n : ℕ). Block n b) s.sizes h);
}

-- the same on every block: what a cipher that means the same as m makes of a block
pub same-forward : (m o : Meaning) (n : ℕ) (b : List ℕ) → Same m o → Block m.size b → o.forward b ≡ m.forward b
same-forward m o n b s h = sym (s.forwards b h)

-- the next block of the keystream is made
pub refilled : (m o : Meaning) (start taken : List ℕ) (s s' : CtrStream) → Same m o → CtrAt m start taken s → m.size ≤ s.used
    → take o.size s'.keystream ≡ o.forward (counter_block o.size (take (o.size / 2) s.start) s.next)
    → length s'.keystream ≡ 16
    → (s'.start ≡ s.start) × (s'.used ≡ 0) × (s'.next ≡ (s.next + 1) % 2 ^ 64)
    → CtrAt m start taken s'
refilled m o start taken s s' same h full made long kept =
    let n : ℕ = m.size in
    let half : n / 2 ≤ 8 = ⊎_elim (λ (e : m.size ≡ 8). omega arith) (λ (e : m.size ≡ 16). omega arith) h.lawful.sized in
    let number : big_endian (n / 2) s.next ≡ big_endian (n / 2) h.made = ap (big_endian (n / 2)) h.counted ∙ big_endian-mod (n / 2) 8 h.made half in
    let counter : counter_block o.size (take (o.size / 2) s.start) s.next ≡ counter_block n start h.made =
    ap (λ (k : ℕ). counter_block k (take (k / 2) s.start) s.next) (sym same.sizes) ∙ ap₂ (λ (a b : List ℕ). a ++ b) h.held number in
    record {
      lawful = h.lawful;
      begun = h.begun;
      held = ap (take (n / 2)) kept.0 ∙ h.held;
      long = long;
      made = h.made + 1;
      counted = kept.2 ∙ ap (λ (k : ℕ). (k + 1) % 2 ^ 64) h.counted ∙ mod-add-mod h.made (2 ^ 64) 1;
      placed =
          let p : length taken + n ≡ n * h.made + min s.used n = h.placed in
          let e : n * suc h.made ≡ n * h.made + n = mul-suc n h.made in
          let u : s'.used ≡ 0 = kept.1 in
          rw (add-one h.made) (omega arith);
      current = λ lt.
          let k : h.made + 1 - 1 ≡ h.made = omega arith in
          ap (λ (i : ℕ). take i s'.keystream) same.sizes
          ∙ made ∙ ap o.forward counter ∙ same-forward m o n _ same (counter-block m start h.made h.lawful h.begun)
          ∙ ap (counter_stream m start) (sym k);
    }

-- bytes are joined with what is left of the current block of the keystream
pub ran : (m : Meaning) (start taken run : List ℕ) (s s' : CtrStream) → CtrAt m start taken s → s.used + length run ≤ m.size → s.used < m.size
    → (s'.start ≡ s.start) × (s'.next ≡ s.next) × (s'.keystream ≡ s.keystream) × (s'.used ≡ s.used + length run)
    → CtrAt m start (taken ++ run) s' × (ctr m start (taken ++ run) ≡ ctr m start taken ++ (run ⊕ take (length run) (drop s.used s.keystream)))
ran m start taken run s s' h fits lt kept =
    let n : ℕ = m.size in
    let u : ℕ = s.used in
    let r : ℕ = length run in
    let p : length taken + n ≡ n * h.made + min s.used n = h.placed in
    let z : n * 0 ≡ 0 = mul-zero n in
    let some : 0 < h.made = ⊎_elim (λ (e : h.made < 1). let zero-made : h.made ≡ 0 = omega arith in let nothing : n * h.made ≡ 0 = ap (λ (k : ℕ). n * k) zero-made ∙ z in absurd (omega arith)) (λ (e : 1 ≤ h.made). e) (cases_lt h.made 1) in
    let b : ℕ = h.made - 1 in
    let back : suc (h.made - 1) ≡ h.made = omega arith in
    let step : n * h.made ≡ n * (h.made - 1) + n = ap (λ (k : ℕ). n * k) (sym back) ∙ mul-suc n (h.made - 1) in
    let place : length taken ≡ n * (h.made - 1) + s.used = omega arith in
    let left : drop u (counter_stream m start (h.made - 1)) ≡ drop u (take n s.keystream) = ap (drop u) (sym (h.current lt)) in
    let cut : take r (drop u (take n s.keystream)) ≡ take r (drop u s.keystream) =
    ap (λ (k : ℕ). take r (drop u (take k s.keystream))) (sym (add-sub u n (omega arith)))
    ∙ ap (take r) (drop-take u (n - u) s.keystream)
    ∙ take-take r (n - u) (drop u s.keystream) (omega arith) in (
      record {
        lawful = h.lawful;
        begun = h.begun;
        held = ap (take (n / 2)) kept.0 ∙ h.held;
        long = ap length kept.2 ∙ h.long;
        made = h.made;
        counted = kept.1 ∙ h.counted;
        placed = omega (arith, length-append taken run, kept.3);
        current = λ lt2. ap (take n) kept.2 ∙ h.current lt;
      },
      joined-run n (counter_stream m start) (size-pos m h.lawful) (stream-long m start h.lawful h.begun) taken run (h.made - 1) s.used place (omega arith)
          ∙ ap (λ (x : List ℕ). ctr m start taken ++ x) (ap (λ (x : List ℕ). run ⊕ x) left ∙ xor-cut run (drop u (take n s.keystream)) ∙ ap (λ (x : List ℕ). run ⊕ x) cut),
    )

-- a refilled stream has taken in what it had taken in
pub refilled-joined : (m o : Meaning) (s₀ s s' : CtrStream) (xs ys : List ℕ) → Same m o → m.size ≤ s.used
    → take o.size s'.keystream ≡ o.forward (counter_block o.size (take (o.size / 2) s.start) s.next)
    → length s'.keystream ≡ 16
    → (s'.start ≡ s.start) × (s'.used ≡ 0) × (s'.next ≡ (s.next + 1) % 2 ^ 64)
    → JoinedCtr m s₀ xs s ys → JoinedCtr m s₀ xs s' ys
refilled-joined m o s₀ s s' xs ys same full made long kept inv = λ n start taken sm hold.
    let was = inv n start taken sm hold in
    let size : n.size ≡ m.size = sm.sizes in
    (refilled n o start (taken ++ xs) s s' (same_then n m o sm same) was.0 (omega arith) made long kept, was.1)

-- one turn of the loop over a piece: r bytes behind the first `at` are joined
pub turned : (m : Meaning) (n : ℕ) (s₀ s s' : CtrStream) (X B W : List ℕ) (at r : ℕ)
    → n ≡ m.size → at ≤ length B → length B ≡ length X → drop at B ≡ drop at X
    → r ≡ min (n - s.used) (length (take (length B - at) (drop at B))) → s.used < n → n ≤ 16
    → W ≡ joined_front (take (length B - at) (drop at B)) (take r (drop s.used s.keystream))
    → (s'.start ≡ s.start) × (s'.next ≡ s.next) × (s'.keystream ≡ s.keystream) × (s'.used ≡ s.used + r)
    → JoinedCtr m s₀ (take at X) s (take at B)
    → (at + r ≤ length (put_mid at (length B - at) B W)) × (drop (at + r) (put_mid at (length B - at) B W) ≡ drop (at + r) X)
    × JoinedCtr m s₀ (take (at + r) X) s' (take (at + r) (put_mid at (length B - at) B W))
turned m n s₀ s s' X B W at r es h lx rest er lt small ew kept inv =
    let k : List ℕ = take r (drop s.used s.keystream) in
    let all : take (length B - at) (drop at B) ≡ drop at B = take_rest B at in
    let r2 : r ≡ min (n - s.used) (length (drop at B)) = er ∙ ap (λ (x : List ℕ). min (n - s.used) (length x)) all in
    let w2 : W ≡ joined_front (drop at B) k = ew ∙ ap (λ (x : List ℕ). joined_front x k) all in
    let ld : length (drop at B) ≡ length B - at = length-drop at B in
    let lw : length W ≡ length B - at = ap length w2 ∙ length-joined-front (drop at B) k ∙ ld in
    let lk : length k ≤ r = simp length-take (omega arith) in
    let parts = behind-written B W at r h lw (omega arith) in
    let run : List ℕ = take r (drop at X) in
    let lrun : length (take r (drop at X)) ≡ r = ap (λ (x : List ℕ). length (take r x)) (sym rest) ∙ simp length-take (omega arith) in
    let split : take (at + r) X ≡ take at X ++ run = take-add at r X in
    let lp : length (put_mid at (length B - at) B W) ≡ length B = length-put_mid at (length B - at) B W (omega arith) lw in (
      omega arith,
      parts.1 ∙ ap (drop r) w2 ∙ drop-joined-front r (drop at B) k lk ∙ ap (drop r) rest ∙ drop-drop r at X,
      λ o start taken same hold.
          let was = inv o start taken same hold in
          let size : o.size ≡ n = same.sizes ∙ sym es in
          let lks : length s.keystream ≡ 16 = was.0.long in
          let lr : length k ≡ r = simp (length-take, length-drop) (omega arith) in
          let front : take r W ≡ run ⊕ k =
          ap (take r) w2
          ∙ ap (λ (x : ℕ). take x (joined_front (drop at B) k)) (sym lr)
          ∙ front-joined-front (drop at B) k (omega arith)
          ∙ ap₂ (λ (x : ℕ) (y : List ℕ). take x y ⊕ k) lr rest in
          let k2 : take (length run) (drop s.used s.keystream) ≡ k = ap (λ (x : ℕ). take x (drop s.used s.keystream)) lrun in
          let went = ran o start (taken ++ take at X) run s s' was.0 (omega arith) (omega arith) (kept.0, kept.1, kept.2, kept.3 ∙ ap (λ (x : ℕ). s.used + x) (sym lrun)) in
          let whole : (taken ++ take at X) ++ run ≡ taken ++ take (at + r) X = append_assoc taken (take at X) run ∙ ap (λ (x : List ℕ). taken ++ x) (sym split) in
          let out : ctr o start ((taken ++ take at X) ++ run) ≡ ctr o start taken ++ take (at + r) (put_mid at (length B - at) B W) =
          went.1
          ∙ ap₂ (λ (x y : List ℕ). x ++ (run ⊕ y)) was.1 k2
          ∙ append_assoc (ctr o start taken) (take at B) (run ⊕ k)
          ∙ ap (λ (x : List ℕ). ctr o start taken ++ (take at B ++ x)) (sym front)
          ∙ ap (λ (x : List ℕ). ctr o start taken ++ x) (sym parts.0) in
          (subst (λ (x : List ℕ). CtrAt o start x s') whole went.0, ap (ctr o start) (sym whole) ∙ out),
    )

-- how far a turn goes
pub run-within : (n f at r : ℕ) (X rest : List ℕ) → rest ≡ drop at X → r ≡ min (n - f) (length rest) → at ≤ length X → (at + r ≤ length X) × (r ≤ n - f)
run-within n f at r X rest all e h =
    let l : length rest ≡ length X - at = ap length all ∙ length-drop at X in
    (omega arith, omega arith)

-- what stands behind a run that is taken off
pub rest-behind : (at r : ℕ) (X rest : List ℕ) → rest ≡ drop at X → take (length rest - r) (drop r rest) ≡ drop (at + r) X
rest-behind at r X rest all = take_rest rest r ∙ ap (drop r) all ∙ drop-drop r at X

pub same_self : (m : Meaning) → Same m m
same_self m = record { sizes = refl; forwards = λ b h. refl; inverses = λ b h. refl }
