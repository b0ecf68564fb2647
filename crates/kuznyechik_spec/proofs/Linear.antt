-- R, L and their inverses keep blocks, and take a sum of blocks to the sum.
use Rattle.std.proofs.Common.{◌≡◌, ℕ, zero, suc, ◌+◌, ◌<◌, min, List, [], ◌∷◌, ◌++◌, length, get_or, take, sym, refl, ap, ◌∙◌, ap₂, arith, lit<, length-append, length-take}
use lib.Bits.{bit_xor, xor_lt, xor_assoc, xor_zero_r}
use lib.Lanes.{zip2}
use lib.LanesLaws.{length-zip2}
use Rattle.block.specs.Blocks.{Block, Bytes}
use Rattle.kuznyechik_spec.specs.Field.{multiply}
use Rattle.kuznyechik_spec.specs.Kuznyechik.{dot_product, coefficients, linear, transform_r, inverse_r, repeated, transform_l, inverse_l, add_key}
use Rattle.std.proofs.ByRecursion.{All-take, All-append}
use Rattle.block.proofs.Bytes.{bytes-xor, take-xor, append-xor, xor-self-list, xor-twice}
use Rattle.kuznyechik_spec.proofs.Field.{xor4, multiply-lt, multiply-xor, multiply-one}

-- ---- l

pub dot_product-lt : (cs xs : List ℕ) → Bytes xs → dot_product cs xs < 256
unfolding dot_product
dot_product-lt [] xs h = lit< tt
dot_product-lt (c ∷ cs) [] h = lit< tt
dot_product-lt (c ∷ cs) (x ∷ xs) h = xor_lt 8 (multiply c x) (dot_product cs xs) (multiply-lt c x h.0) (dot_product-lt cs xs h.1)

pub dot_product-xor : (cs xs ys : List ℕ) → Bytes xs → Bytes ys → length xs ≡ length ys
    → dot_product cs (zip2 bit_xor xs ys) ≡ bit_xor (dot_product cs xs) (dot_product cs ys)
unfolding dot_product
dot_product-xor [] xs ys h k e = refl
dot_product-xor (c ∷ cs) [] [] h k e = refl
dot_product-xor (c ∷ cs) [] (y ∷ ys) h k e = absurd (omega arith)
dot_product-xor (c ∷ cs) (x ∷ xs) [] h k e = absurd (omega arith)
dot_product-xor (c ∷ cs) (x ∷ xs) (y ∷ ys) h k e =
    ap₂ bit_xor (multiply-xor c x y h.0 k.0) (dot_product-xor cs xs ys h.1 k.1 (omega arith))
    ∙ xor4 (multiply c x) (multiply c y) (dot_product cs xs) (dot_product cs ys)

dot_product-snoc : (cs xs : List ℕ) (c x : ℕ) → length cs ≡ length xs → dot_product (cs ++ (c ∷ [])) (xs ++ (x ∷ [])) ≡ bit_xor (dot_product cs xs) (multiply c x)
unfolding dot_product
dot_product-snoc [] [] c x e = xor_zero_r (multiply c x)
dot_product-snoc [] (y ∷ xs) c x e = absurd (omega arith)
dot_product-snoc (d ∷ cs) [] c x e = absurd (omega arith)
dot_product-snoc (d ∷ cs) (y ∷ xs) c x e =
    ap (bit_xor (multiply d y)) (dot_product-snoc cs xs c x (omega arith)) ∙ sym (xor_assoc (multiply d y) (dot_product cs xs) (multiply c x))

-- the coefficients but for the last, which is 1
coefficients15 : List ℕ
coefficients15 = 148 ∷ 32 ∷ 133 ∷ 16 ∷ 194 ∷ 192 ∷ 1 ∷ 251 ∷ 1 ∷ 192 ∷ 194 ∷ 16 ∷ 133 ∷ 32 ∷ 148 ∷ []

linear-snoc : (xs : List ℕ) (x : ℕ) → length xs ≡ 15 → linear (xs ++ (x ∷ [])) ≡ bit_xor (dot_product coefficients15 xs) x
unfolding linear coefficients coefficients15
linear-snoc xs x e = dot_product-snoc coefficients15 xs 1 x (sym e) ∙ ap (bit_xor (dot_product coefficients15 xs)) (multiply-one x)

-- the last of n + 1 elements
last-split : (n : ℕ) (xs : List ℕ) → length xs ≡ suc n → take n xs ++ (get_or xs n 0 ∷ []) ≡ xs
last-split n [] e = absurd (omega arith)
last-split zero (x ∷ []) e = refl
last-split zero (x ∷ y ∷ xs) e = absurd (omega arith)
last-split (suc n) (x ∷ xs) e = ap (λ l. x ∷ l) (last-split n xs (omega arith))

take-join : (n : ℕ) (xs ys : List ℕ) → length xs ≡ n → take n (xs ++ ys) ≡ xs
take-join zero [] ys e = refl
take-join zero (x ∷ xs) ys e = absurd (omega arith)
take-join (suc n) [] ys e = absurd (omega arith)
take-join (suc n) (x ∷ xs) ys e = ap (λ l. x ∷ l) (take-join n xs ys (omega arith))

-- ---- R and its inverse

pub add_key-block : {a b : List ℕ} → Block 16 a → Block 16 b → Block 16 (add_key a b)
unfolding add_key
add_key-block {a} {b} h k = record {
  long = length-zip2 bit_xor a b (h.long ∙ sym k.long) ∙ h.long;
  bytes = bytes-xor a b h.bytes k.bytes;
}

pub add_key-twice : (k a : List ℕ) → Block 16 k → Block 16 a → add_key k (add_key k a) ≡ a
unfolding add_key
add_key-twice k a hk ha = xor-self-list k a (hk.long ∙ sym ha.long)

pub transform_r-block : (a : List ℕ) → Block 16 a → Block 16 (transform_r a)
unfolding transform_r linear
transform_r-block a h = record {
  long = ap suc (length-take 15 a ∙ ap (min 15) h.long);
  bytes = (dot_product-lt coefficients a h.bytes, All-take (λ x. x < 256) 15 a h.bytes);
}

pub transform_r-xor : (a b : List ℕ) → Block 16 a → Block 16 b → transform_r (add_key a b) ≡ add_key (transform_r a) (transform_r b)
unfolding transform_r linear add_key
transform_r-xor a b h k =
    ap₂ (λ x l. x ∷ l) (dot_product-xor coefficients a b h.bytes k.bytes (h.long ∙ sym k.long)) (take-xor 15 a b)

pub inverse_r-block : (a : List ℕ) → Block 16 a → Block 16 (inverse_r a)
unfolding inverse_r linear
inverse_r-block [] h = absurd (omega (arith, h.long))
inverse_r-block (b ∷ bs) h = record {
  long = length-append bs (linear (bs ++ (b ∷ [])) ∷ []) ∙ omega (arith, h.long);
  bytes = All-append (λ x. x < 256) bs (linear (bs ++ (b ∷ [])) ∷ []) h.bytes.1
      (dot_product-lt coefficients (bs ++ (b ∷ [])) (All-append (λ x. x < 256) bs (b ∷ []) h.bytes.1 (h.bytes.0, tt)), tt);
}

pub inverse_r-xor : (a b : List ℕ) → Block 16 a → Block 16 b → inverse_r (add_key a b) ≡ add_key (inverse_r a) (inverse_r b)
unfolding inverse_r linear add_key
inverse_r-xor [] b h k = absurd (omega (arith, h.long))
inverse_r-xor (x ∷ xs) [] h k = absurd (omega (arith, k.long))
inverse_r-xor (x ∷ xs) (y ∷ ys) h k =
    let e : length xs ≡ length ys = omega (arith, h.long, k.long) in
    let both : zip2 bit_xor xs ys ++ (bit_xor x y ∷ []) ≡ zip2 bit_xor (xs ++ (x ∷ [])) (ys ++ (y ∷ [])) =
    sym (append-xor xs ys (x ∷ []) (y ∷ []) e) in
    let long : length (xs ++ (x ∷ [])) ≡ length (ys ++ (y ∷ [])) =
    length-append xs (x ∷ []) ∙ ap (λ n. n + 1) e ∙ sym (length-append ys (y ∷ [])) in
    ap (λ z. zip2 bit_xor xs ys ++ (z ∷ []))
    (ap (dot_product coefficients) both
    ∙ dot_product-xor coefficients (xs ++ (x ∷ [])) (ys ++ (y ∷ []))
    (All-append (λ x. x < 256) xs (x ∷ []) h.bytes.1 (h.bytes.0, tt)) (All-append (λ x. x < 256) ys (y ∷ []) k.bytes.1 (k.bytes.0, tt)) long)
    ∙ sym (append-xor xs ys (dot_product coefficients (xs ++ (x ∷ [])) ∷ []) (dot_product coefficients (ys ++ (y ∷ [])) ∷ []) e)

pub inverse_r-transform_r : (a : List ℕ) → Block 16 a → inverse_r (transform_r a) ≡ a
unfolding transform_r inverse_r
inverse_r-transform_r a h =
    let long : length (take 15 a) ≡ 15 = length-take 15 a ∙ ap (min 15) h.long in
    let split : take 15 a ++ (get_or a 15 0 ∷ []) ≡ a = last-split 15 a h.long in
    let here : linear a ≡ bit_xor (dot_product coefficients15 (take 15 a)) (get_or a 15 0) =
    ap linear (sym split) ∙ linear-snoc (take 15 a) (get_or a 15 0) long in
    ap (λ z. take 15 a ++ (z ∷ []))
    (linear-snoc (take 15 a) (linear a) long ∙ ap (bit_xor (dot_product coefficients15 (take 15 a))) here
    ∙ xor-twice (dot_product coefficients15 (take 15 a)) (get_or a 15 0))
    ∙ split

pub transform_r-inverse_r : (a : List ℕ) → Block 16 a → transform_r (inverse_r a) ≡ a
unfolding transform_r inverse_r
transform_r-inverse_r [] h = absurd (omega (arith, h.long))
transform_r-inverse_r (b ∷ bs) h =
    let e : length bs ≡ 15 = omega (arith, h.long) in
    ap₂ (λ x l. x ∷ l)
    (linear-snoc bs (linear (bs ++ (b ∷ []))) e ∙ ap (bit_xor (dot_product coefficients15 bs)) (linear-snoc bs b e) ∙ xor-twice (dot_product coefficients15 bs) b)
    (take-join 15 bs (linear (bs ++ (b ∷ [])) ∷ []) e)

-- ---- any step that keeps blocks, n times

module _ (f : List ℕ → List ℕ) (keep : (a : List ℕ) → Block 16 a → Block 16 (f a)) where
  pub repeated-block : (n : ℕ) (a : List ℕ) → Block 16 a → Block 16 (repeated n f a)
  unfolding repeated
  repeated-block zero a h = h
  repeated-block (suc n) a h = repeated-block n (f a) (keep a h)

  pub repeated-xor : ((a b : List ℕ) → Block 16 a → Block 16 b → f (add_key a b) ≡ add_key (f a) (f b))
      → (n : ℕ) (a b : List ℕ) → Block 16 a → Block 16 b → repeated n f (add_key a b) ≡ add_key (repeated n f a) (repeated n f b)
  unfolding repeated
  repeated-xor lin zero a b h k = refl
  repeated-xor lin (suc n) a b h k = ap (repeated n f) (lin a b h k) ∙ repeated-xor lin n (f a) (f b) (keep a h) (keep b k)

repeated-out : (f : List ℕ → List ℕ) (n : ℕ) (a : List ℕ) → repeated (suc n) f a ≡ f (repeated n f a)
unfolding repeated
repeated-out f zero a = refl
repeated-out f (suc n) a = repeated-out f n (f a)

repeated-back : (f g : List ℕ → List ℕ) → ((a : List ℕ) → Block 16 a → Block 16 (f a)) → ((a : List ℕ) → Block 16 a → g (f a) ≡ a)
    → (n : ℕ) (a : List ℕ) → Block 16 a → repeated n g (repeated n f a) ≡ a
unfolding repeated
repeated-back f g keep undo zero a h = refl
repeated-back f g keep undo (suc n) a h =
    ap (repeated (suc n) g) (repeated-out f n a) ∙ ap (repeated n g) (undo (repeated n f a) (repeated-block f keep n a h)) ∙ repeated-back f g keep undo n a h

-- ---- L and its inverse

pub transform_l-block : (a : List ℕ) → Block 16 a → Block 16 (transform_l a)
unfolding transform_l
transform_l-block a h = repeated-block transform_r transform_r-block 16 a h

pub inverse_l-block : (a : List ℕ) → Block 16 a → Block 16 (inverse_l a)
unfolding inverse_l
inverse_l-block a h = repeated-block inverse_r inverse_r-block 16 a h

pub transform_l-xor : (a b : List ℕ) → Block 16 a → Block 16 b → transform_l (add_key a b) ≡ add_key (transform_l a) (transform_l b)
unfolding transform_l
transform_l-xor a b h k = repeated-xor transform_r transform_r-block transform_r-xor 16 a b h k

pub inverse_l-xor : (a b : List ℕ) → Block 16 a → Block 16 b → inverse_l (add_key a b) ≡ add_key (inverse_l a) (inverse_l b)
unfolding inverse_l
inverse_l-xor a b h k = repeated-xor inverse_r inverse_r-block inverse_r-xor 16 a b h k

pub inverse_l-transform_l : (a : List ℕ) → Block 16 a → inverse_l (transform_l a) ≡ a
unfolding transform_l inverse_l
inverse_l-transform_l a h = repeated-back transform_r inverse_r transform_r-block inverse_r-transform_r 16 a h

pub transform_l-inverse_l : (a : List ℕ) → Block 16 a → transform_l (inverse_l a) ≡ a
unfolding transform_l inverse_l
transform_l-inverse_l a h = repeated-back inverse_r transform_r inverse_r-block transform_r-inverse_r 16 a h
