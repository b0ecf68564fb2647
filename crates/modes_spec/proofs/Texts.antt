-- The blocks of a text, and texts put together from blocks.
use Rattle.std.proofs.Common.{◌≡◌, ℕ, zero, suc, ◌+◌, ◌-◌, ◌*◌, ◌<◌, ◌≤◌, List, [], ◌∷◌, ◌++◌, length, get_or, take, drop, set, sym, refl, ap, ◌∙◌, ap₂, ⊎_elim, mul-le-mul_left, mul-zero, mul-suc, add-one, arith, take-add}
use borrow.Rule.Slice.PartMut.{put_mid, post_of}
use lib.Bits.{bit_xor, xor_lt, xor_zero_r}
use Rattle.std.proofs.ByRecursion.{All-take, All-drop, All-append}
use Rattle.std.proofs.lemmas.Bool.{cases_lt}
use Rattle.std.proofs.lemmas.List.{length-append, length-take, length-drop, take-append-le, drop-append-le, take_at, drop_at, take_all, drop_all, drop-drop, append-nil}
use Rattle.block.specs.Blocks.{Bytes}
use Rattle.modes_spec.specs.Texts.{◌⊕◌, joined_front, block_at, joined_to, zeros}

-- ---- blocks

pub bytes-block : (n : ℕ) (text : List ℕ) (i : ℕ) → Bytes text → Bytes (block_at n text i)
bytes-block n text i h = All-take (λ x. x < 256) n (drop (n * i) text) (All-drop (λ x. x < 256) (n * i) text h)

pub length-block : (n : ℕ) (text : List ℕ) (i : ℕ) → n * i + n ≤ length text → length (block_at n text i) ≡ n
length-block n text i h = simp (length-take, length-drop) (omega arith)

-- a whole block stays where the text grows
pub block-append : (n : ℕ) (xs ys : List ℕ) (i : ℕ) → n * i + n ≤ length xs → block_at n (xs ++ ys) i ≡ block_at n xs i
block-append n xs ys i h =
    let a : n * i ≤ length xs = omega arith in
    let b : n ≤ length (drop (n * i) xs) = simp length-drop (omega arith) in
    ap (take n) (drop-append-le (n * i) xs ys a) ∙ take-append-le n (drop (n * i) xs) ys b

-- ---- joined_to

pub joined_same : (f g : ℕ → List ℕ) (q : ℕ) → ((i : ℕ) → i < q → f i ≡ g i) → joined_to f q ≡ joined_to g q
unfolding joined_to
joined_same f g zero h = refl
joined_same f g (suc q) h = ap₂ (λ (a b : List ℕ). a ++ b) (joined_same f g q (λ i l. h i (omega arith))) (h q (omega arith))

pub length-joined : (n : ℕ) (f : ℕ → List ℕ) (q : ℕ) → ((i : ℕ) → i < q → length (f i) ≡ n) → length (joined_to f q) ≡ n * q
unfolding joined_to
length-joined n f zero h = sym (mul-zero n)
length-joined n f (suc q) h =
    length-append (joined_to f q) (f q)
    ∙ ap₂ (λ (a b : ℕ). a + b) (length-joined n f q (λ i l. h i (omega arith))) (h q (omega arith))
    ∙ sym (mul-suc n q)

pub bytes-joined : (f : ℕ → List ℕ) (q : ℕ) → ((i : ℕ) → i < q → Bytes (f i)) → Bytes (joined_to f q)
unfolding joined_to
bytes-joined f zero h = tt
bytes-joined f (suc q) h = All-append (λ x. x < 256) (joined_to f q) (f q) (bytes-joined f q (λ i l. h i (omega arith))) (h q (omega arith))

-- the blocks of a text, one after the other, are its front
pub joined-blocks : (n : ℕ) (text : List ℕ) (q : ℕ) → joined_to (block_at n text) q ≡ take (n * q) text
unfolding joined_to
joined-blocks n text zero = ap (λ (k : ℕ). take k text) (sym (mul-zero n))
joined-blocks n text (suc q) =
    ap (λ (a : List ℕ). a ++ block_at n text q) (joined-blocks n text q) ∙ sym (take-add (n * q) n text) ∙ ap (λ (k : ℕ). take k text) (sym (mul-suc n q))

-- a text that is joined from blocks has these blocks
pub block-joined : (n : ℕ) (f : ℕ → List ℕ) (q i : ℕ) → ((j : ℕ) → j < q → length (f j) ≡ n) → i < q → block_at n (joined_to f q) i ≡ f i
unfolding joined_to
block-joined n f zero i h l = absurd (omega arith)
block-joined n f (suc q) i h l =
    let front : length (joined_to f q) ≡ n * q = length-joined n f q (λ j k. h j (omega arith)) in
    ⊎_elim
    (λ (lt : i < q).
    let s : n * suc i ≤ n * q = mul-le-mul_left n (omega arith) in
    let t : n * suc i ≡ n * i + n = mul-suc n i in
    block-append n (joined_to f q) (f q) i (omega arith) ∙ block-joined n f q i (λ j k. h j (omega arith)) lt)
    (λ (ge : q ≤ i).
    let e : i ≡ q = omega arith in
    ap (λ (k : ℕ). take n (drop (n * k) (joined_to f q ++ f q))) e
    ∙ ap (take n) (drop_at (joined_to f q) (f q) (n * q) front)
    ∙ take_all n (f q) (omega (arith, h q (omega arith)))
    ∙ ap f (sym e))
    (cases_lt i q)

-- ---- joined_front

-- a loop that joins byte after byte
pub joined-front-step : (xs more ys : List ℕ) (i : ℕ) → i < length more → length more ≤ length xs → ys ≡ joined_front xs (take i more)
    → set ys i (bit_xor (get_or ys i 0) (get_or more i 0)) ≡ joined_front xs (take (i + 1) more)
joined-front-step xs more ys i h k e =
    ap (λ (l : List ℕ). set l i (bit_xor (get_or l i 0) (get_or more i 0))) e ∙ go xs more i h k ∙ ap (λ (j : ℕ). joined_front xs (take j more)) (sym (add-one i))
  where
    go : (xs more : List ℕ) (i : ℕ) → i < length more → length more ≤ length xs
        → set (joined_front xs (take i more)) i (bit_xor (get_or (joined_front xs (take i more)) i 0) (get_or more i 0)) ≡ joined_front xs (take (suc i) more)
    go xs [] i h k = absurd (omega arith)
    go [] (y ∷ more) i h k = absurd (omega arith)
    go (x ∷ xs) (y ∷ []) zero h k = refl
    go (x ∷ xs) (y ∷ z ∷ more) zero h k = refl
    go (x ∷ xs) (y ∷ more) (suc i) h k = ap (λ (l : List ℕ). bit_xor x y ∷ l) (go xs more i (omega arith) (omega arith))

pub length-joined-front : (xs ys : List ℕ) → length (joined_front xs ys) ≡ length xs
length-joined-front xs [] = refl
length-joined-front [] (y ∷ ys) = refl
length-joined-front (x ∷ xs) (y ∷ ys) = ap suc (length-joined-front xs ys)

-- a front of the same length is plain exclusive or
pub joined-front-whole : (xs ys : List ℕ) → length xs ≡ length ys → joined_front xs ys ≡ xs ⊕ ys
joined-front-whole [] [] e = refl
joined-front-whole [] (y ∷ ys) e = absurd (omega arith)
joined-front-whole (x ∷ xs) [] e = absurd (omega arith)
joined-front-whole (x ∷ xs) (y ∷ ys) e = ap (λ (l : List ℕ). bit_xor x y ∷ l) (joined-front-whole xs ys (omega arith))

pub take-joined-front : (n : ℕ) (xs ys : List ℕ) → take n (joined_front xs ys) ≡ joined_front (take n xs) (take n ys)
take-joined-front zero xs ys = refl
take-joined-front (suc n) xs [] = refl
take-joined-front (suc n) [] (y ∷ ys) = refl
take-joined-front (suc n) (x ∷ xs) (y ∷ ys) = ap (λ (l : List ℕ). bit_xor x y ∷ l) (take-joined-front n xs ys)

-- the front is what is joined, the rest stays
pub front-joined-front : (xs ys : List ℕ) → length ys ≤ length xs → take (length ys) (joined_front xs ys) ≡ take (length ys) xs ⊕ ys
front-joined-front xs [] h = refl
front-joined-front [] (y ∷ ys) h = absurd (omega arith)
front-joined-front (x ∷ xs) (y ∷ ys) h = ap (λ (l : List ℕ). bit_xor x y ∷ l) (front-joined-front xs ys (omega arith))

pub drop-joined-front : (n : ℕ) (xs ys : List ℕ) → length ys ≤ n → drop n (joined_front xs ys) ≡ drop n xs
drop-joined-front n xs [] h = refl
drop-joined-front zero [] (y ∷ ys) h = refl
drop-joined-front zero (x ∷ xs) (y ∷ ys) h = absurd (omega arith)
drop-joined-front (suc n) [] (y ∷ ys) h = refl
drop-joined-front (suc n) (x ∷ xs) (y ∷ ys) h = drop-joined-front n xs ys (omega arith)

-- joining goes on behind what is joined already
pub joined-front-more : (xs ts ys : List ℕ) → length ts ≤ length xs
    → joined_front xs (ts ++ ys) ≡ take (length ts) (joined_front xs ts) ++ joined_front (drop (length ts) (joined_front xs ts)) ys
joined-front-more xs [] ys h = refl
joined-front-more [] (t ∷ ts) ys h = absurd (omega arith)
joined-front-more (x ∷ xs) (t ∷ ts) ys h = ap (λ (l : List ℕ). bit_xor x t ∷ l) (joined-front-more xs ts ys (omega arith))

pub bytes-joined-front : (xs ys : List ℕ) → Bytes xs → Bytes ys → Bytes (joined_front xs ys)
bytes-joined-front xs [] h k = h
bytes-joined-front [] (y ∷ ys) h k = tt
bytes-joined-front (x ∷ xs) (y ∷ ys) h k = (xor_lt 8 x y h.0 k.0, bytes-joined-front xs ys h.1 k.1)

-- exclusive or sees of the second text only what the first covers
pub xor-cut : (xs ys : List ℕ) → xs ⊕ ys ≡ xs ⊕ take (length xs) ys
xor-cut [] ys = refl
xor-cut (x ∷ xs) [] = refl
xor-cut (x ∷ xs) (y ∷ ys) = ap (λ (l : List ℕ). bit_xor x y ∷ l) (xor-cut xs ys)

pub length-put_mid : (at k : ℕ) (B W : List ℕ) → at + k ≤ length B → length W ≡ k → length (put_mid at k B W) ≡ length B
length-put_mid at k B W h e = simp (length-append, length-take, length-drop) (omega arith)

-- what a text holds after a write to all of it behind a place
pub behind-written : (B W : List ℕ) (at r : ℕ) → at ≤ length B → length W ≡ length B - at → r ≤ length W
    → (take (at + r) (put_mid at (length B - at) B W) ≡ take at B ++ take r W) × (drop (at + r) (put_mid at (length B - at) B W) ≡ drop r W)
behind-written B W at r h e k =
    let none : post_of at (length B - at) B ≡ [] = drop_all (length B - at) (drop at B) (simp length-drop (omega arith)) in
    let whole : put_mid at (length B - at) B W ≡ take at B ++ W = ap (λ (x : List ℕ). take at B ++ (W ++ x)) none ∙ ap (λ (x : List ℕ). take at B ++ x) (append-nil W) in
    let l : length (take at B) ≡ at = simp length-take (omega arith) in (
      ap (take (at + r)) whole ∙ take-add at r (take at B ++ W) ∙ ap₂ (λ (a b : List ℕ). a ++ take r b) (take_at (take at B) W at l) (drop_at (take at B) W at l),
      ap (drop (at + r)) whole ∙ sym (drop-drop r at (take at B ++ W)) ∙ ap (drop r) (drop_at (take at B) W at l),
    )

-- zeros change nothing
pub joined-front-zeros : (xs : List ℕ) (k : ℕ) → joined_front xs (zeros k) ≡ xs
joined-front-zeros xs zero = refl
joined-front-zeros [] (suc k) = refl
joined-front-zeros (x ∷ xs) (suc k) = ap₂ (λ (y : ℕ) (l : List ℕ). y ∷ l) (xor_zero_r x) (joined-front-zeros xs k)

-- one byte joined in the middle, and zeros behind it
pub joined-one : (xs : List ℕ) (f b k : ℕ) → f < length xs → set xs f (bit_xor (get_or xs f 0) b) ≡ take f xs ++ joined_front (drop f xs) (b ∷ zeros k)
joined-one [] f b k h = absurd (omega arith)
joined-one (x ∷ xs) zero b k h = ap (λ (l : List ℕ). bit_xor x b ∷ l) (sym (joined-front-zeros xs k))
joined-one (x ∷ xs) (suc f) b k h = ap (λ (l : List ℕ). x ∷ l) (joined-one xs f b k (omega arith))
