-- A slot of the work area, filled.
use Rattle.std.proofs.Common.{◌≡◌, ℕ, ◌+◌, ◌-◌, ◌<◌, ◌≤◌, min, ◌≢◌, List, ◌++◌, length, get_or, take, drop, set, sym, ap, ◌∙◌, arith, length-append, length-drop, length-set, length-take}
use borrow.Rule.Slice.PartMut.{put_mid}
use Rattle.std.proofs.lemmas.List.{get_or_append_left, get_or-take, get_or-set_same, get_or-set_other, length-take-le}
use Rattle.std.proofs.lemmas.Slice.{between_is, between-put_mid, take-put_mid_below}
use Rattle.std.specs.List.{between}
use Rattle.sheet.specs.Slots.{name_kept, start_kept}

module _ (a k : ℕ) (xs ys : List ℕ) (a≤ : a ≤ length xs) where
  -- a write from place a on changes nothing before it
  get_or-before : (i : ℕ) → i < a → get_or (put_mid a k xs ys) i 0 ≡ get_or xs i 0
  get_or-before i h =
      let n : length (take a xs) ≡ a = length-take-le a xs a≤ in
      get_or_append_left (take a xs) (ys ++ drop k (drop a xs)) 0 i (omega arith) ∙ get_or-take a xs i 0 h

  between-before : (i j : ℕ) → j ≤ a → between i j (put_mid a k xs ys) ≡ between i j xs
  between-before i j h =
      between_is (put_mid a k xs ys) i j ∙ ap (drop i) (take-put_mid_below a k xs ys j h a≤) ∙ sym (between_is xs i j)

  length-after : a + k ≤ length xs → length ys ≡ k → length (put_mid a k xs ys) ≡ length xs
  length-after h n = simp (length-append, length-take, length-drop) (omega arith)

-- a slot with both lengths and both texts
abbrev pub filled : List ℕ → List ℕ → List ℕ → List ℕ
filled s start name =
    put_mid 24 (24 + length name - 24) (put_mid 8 (8 + length start - 8) (set (set s 0 (length name)) 1 (length start)) start) name

module _ (s start name : List ℕ) (whole : length s ≡ 56) (few : length start ≤ 16) (short : length name ≤ 32) where
  abbrev sized : List ℕ
  sized = set (set s 0 (length name)) 1 (length start)

  sized-whole : length sized ≡ 56
  sized-whole = simp length-set whole

  abbrev started : List ℕ
  started = put_mid 8 (8 + length start - 8) sized start

  started-whole : length started ≡ 56
  started-whole =
      let n : length sized ≡ 56 = sized-whole in
      length-after 8 (8 + length start - 8) sized start (omega arith) (omega arith) (omega arith) ∙ n

  name-length : get_or (filled s start name) 0 0 ≡ length name
  name-length =
      let n : length started ≡ 56 = started-whole in
      let m : length sized ≡ 56 = sized-whole in
      let ne : ◌≢◌ {A = ℕ} 0 1 = omega arith in
      get_or-before 24 (24 + length name - 24) started name (omega arith) 0 (omega arith)
      ∙ get_or-before 8 (8 + length start - 8) sized start (omega arith) 0 (omega arith)
      ∙ get_or-set_other (set s 0 (length name)) 1 0 (length start) 0 ne
      ∙ get_or-set_same s 0 (length name) 0 (omega arith)

  start-length : get_or (filled s start name) 1 0 ≡ length start
  start-length =
      let n : length started ≡ 56 = started-whole in
      let m : length sized ≡ 56 = sized-whole in
      let k : length (set s 0 (length name)) ≡ 56 = simp length-set whole in
      get_or-before 24 (24 + length name - 24) started name (omega arith) 1 (omega arith)
      ∙ get_or-before 8 (8 + length start - 8) sized start (omega arith) 1 (omega arith)
      ∙ get_or-set_same (set s 0 (length name)) 1 (length start) 0 (omega arith)

  pub name-filled : name_kept (filled s start name) ≡ name
  name-filled =
      let n : length started ≡ 56 = started-whole in
      let e : min (24 + length name) 56 ≡ 24 + length name = omega arith in
      ap (λ (l : ℕ). between 24 (min (24 + l) 56) (filled s start name)) name-length
      ∙ ap (λ (l : ℕ). between 24 l (filled s start name)) e
      ∙ between-put_mid 24 (24 + length name - 24) started name (24 + length name) (omega arith) (omega arith)

  pub start-filled : start_kept (filled s start name) ≡ start
  start-filled =
      let n : length started ≡ 56 = started-whole in
      let m : length sized ≡ 56 = sized-whole in
      let e : min (8 + length start) 24 ≡ 8 + length start = omega arith in
      ap (λ (l : ℕ). between 8 (min (8 + l) 24) (filled s start name)) start-length
      ∙ ap (λ (l : ℕ). between 8 l (filled s start name)) e
      ∙ between-before 24 (24 + length name - 24) started name (omega arith) 8 (8 + length start) (omega arith)
      ∙ between-put_mid 8 (8 + length start - 8) sized start (8 + length start) (omega arith) (omega arith)
