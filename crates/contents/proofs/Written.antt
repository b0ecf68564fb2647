-- What is written of contents.
use Rattle.std.proofs.Common.{◌≡◌, ℕ, ◌+◌, ◌*◌, ◌<◌, ◌≤◌, List, [], ◌∷◌, ◌++◌, length, get_or, take, drop, set, replicate, sym, ap, ◌∙◌, ap₂, append_assoc, append-nil, arith, length-append, length-drop}
use borrow.Rule.Slice.PartMut.{put_mid}
use Rattle.std.specs.List.{flat_map}
use Rattle.std.proofs.lemmas.List.{flat_map_more, length-take-le, take-append-drop, take_more, drop_all, drop-drop}
use Rattle.std.proofs.lemmas.Slice.{take-put_mid, drop-put_mid}
use Rattle.contents.specs.Entries.{bytes_in}
use Rattle.contents.specs.declared.entry.Entry.{Entry}

-- a part that is written anew
pub record Put (a k : ℕ) (xs ys : List ℕ) : Type 0 where
  pub front : take (a + k) (put_mid a k xs ys) ≡ take a xs ++ ys
  pub back : drop (a + k) (put_mid a k xs ys) ≡ drop (a + k) xs
  pub long : length (put_mid a k xs ys) ≡ length xs

pub put : (a k : ℕ) (xs ys : List ℕ) → length ys ≡ k → a + k ≤ length xs → Put a k xs ys
put a k xs ys n h =
    let f = take-put_mid a k xs ys (a + k) (omega arith) (omega arith) in
    let b = drop-put_mid a k xs ys (a + k) (omega arith) (omega arith) n in
    let whole = ap length (sym (take-append-drop (a + k) (put_mid a k xs ys))) in
    let s = length-append (take (a + k) (put_mid a k xs ys)) (drop (a + k) (put_mid a k xs ys)) in
    let t = ap length f ∙ length-append (take a xs) ys in
    let u = length-take-le a xs (omega arith) in
    let v = ap length b ∙ length-drop (a + k) xs in
    record { front = f; back = b; long = omega arith }

-- the fields of an entry, each written at its place over zeros
pub fields-written : (a b : ℕ) (four start name : List ℕ) → length four ≡ 4 → length start ≡ 16 → length name ≡ 32
    → put_mid 24 32 (put_mid 8 16 (put_mid 4 4 (set (set (replicate 56 0) 0 a) 1 b) four) start) name
    ≡ a ∷ b ∷ 0 ∷ 0 ∷ (four ++ (start ++ name))
fields-written a b four start name f s m =
    let A = set (set (replicate 56 0) 0 a) 1 b in
    let p = put 4 4 A four f (omega arith) in
    let B = put_mid 4 4 A four in
    let long_b : length B ≡ 56 = p.long in
    let q = put 8 16 B start s (omega arith) in
    let C = put_mid 8 16 B start in
    let long_c : length C ≡ 56 = q.long ∙ long_b in
    let r = put 24 32 C name m (omega arith) in
    let D = put_mid 24 32 C name in
    let long_d : length D ≡ 56 = r.long ∙ long_c in
    let none : drop 56 D ≡ [] = drop_all 56 D (omega arith) in
    sym (take-append-drop 56 D) ∙ ap₂ (λ (u v : List ℕ). u ++ v) r.front none ∙ append-nil (take 24 C ++ name)
    ∙ ap (λ (u : List ℕ). u ++ name) (q.front ∙ ap (λ (u : List ℕ). u ++ start) p.front)
    ∙ ap (λ (u : List ℕ). a ∷ b ∷ 0 ∷ 0 ∷ u) (append_assoc four start name)

-- one entry more is written behind those of the first i rows
pub front-more : (header out part : List ℕ) (i k : ℕ) (rows : List Entry) (d : Entry) → k ≡ 56 → length part ≡ 56 → 4 + 56 * (i + 1) ≤ length out
    → i < length rows → part ≡ bytes_in (get_or rows i d) → take (4 + 56 * i) out ≡ header ++ flat_map bytes_in (take i rows)
    → take (4 + 56 * (i + 1)) (put_mid (4 + 56 * i) k out part) ≡ header ++ flat_map bytes_in (take (i + 1) rows)
front-more header out part i k rows d size long room less is inv =
    take-put_mid (4 + 56 * i) k out part (4 + 56 * (i + 1)) (omega arith) (omega arith)
    ∙ ap₂ (λ (xs ys : List ℕ). xs ++ ys) inv is
    ∙ flat_map_more bytes_in header (take i rows) (get_or rows i d)
    ∙ ap (λ (es : List Entry). header ++ flat_map bytes_in es) (sym (take_more rows i d less))

pub back_more : (out first part : List ℕ) (i k : ℕ) → k ≡ 56 → length part ≡ 56 → 4 + 56 * (i + 1) ≤ length out
    → drop (4 + 56 * i) out ≡ drop (4 + 56 * i) first
    → drop (4 + 56 * (i + 1)) (put_mid (4 + 56 * i) k out part) ≡ drop (4 + 56 * (i + 1)) first
back_more out first part i k size long room inv =
    let sum : 4 + 56 * i + 56 ≡ 4 + 56 * (i + 1) = omega arith in
    let on : (xs : List ℕ) → drop 56 (drop (4 + 56 * i) xs) ≡ drop (4 + 56 * (i + 1)) xs = λ xs. drop-drop 56 (4 + 56 * i) xs ∙ ap (λ (j : ℕ). drop j xs) sum in
    drop-put_mid (4 + 56 * i) k out part (4 + 56 * (i + 1)) (omega arith) (omega arith) (long ∙ sym size)
    ∙ sym (on out) ∙ ap (drop 56) inv ∙ on first
