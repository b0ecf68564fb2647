-- One entry more, behind those that were read.
use Rattle.std.proofs.Common.{zero, get_or, refl, ◌≡◌, ℕ, suc, ◌+◌, ◌-◌, ◌*◌, ◌<◌, ◌≤◌, Bool, true, false, not, ◌&&◌, List, [], ◌∷◌, ◌++◌, length, take, drop, Some, None, Err, Option, Result, sym, ap, ◌∙◌, arith}
use Rattle.std.specs.Simd.{first_chunks}
use Rattle.std.proofs.lemmas.List.{drop-drop}
use Rattle.std.proofs.lemmas.Bool.{and_right, le-leb, lt-leb}
use Rattle.sheet_format.specs.Lines.{bind, given}
use Rattle.sheet_format.specs.Orders.{BodyOrder, is_ctr, total_blocks}
use Rattle.contents_format.specs.Reading.{entry_read, name_in, ctr_start_in, may_follow, next_body, go_on, bodies_from}
use Rattle.contents_format.specs.declared.ContentsFault.{ContentsFault}
use Rattle.contents_format.specs.declared.ContentsFault.TheVariants.{Entry}

module _ (n : ℕ) (earlier : List BodyOrder) (xs : List ℕ) where
  follow-so : (b : BodyOrder) (t : Bool) → Some b ≡ entry_read n xs → may_follow n earlier b ≡ t → given t (Some b) ≡ next_body n earlier xs
  follow-so b t e f =
      ap (λ (q : Bool). given q (Some b)) (sym f) ∙ ap (λ (o : Option BodyOrder). bind o (λ b. given (may_follow n earlier b) (Some b))) e

  pub next-named : (b : BodyOrder) → Some b ≡ entry_read n xs → true ≡ name_in b.name earlier → None ≡ next_body n earlier xs
  next-named b e t = follow-so b false e (rw (sym t))

  pub next-started : (b : BodyOrder) → Some b ≡ entry_read n xs → true ≡ (is_ctr b.mode && ctr_start_in b.start earlier) → None ≡ next_body n earlier xs
  next-started b e t = follow-so b false e (and_right (not (name_in b.name earlier)) _ (rw (sym t)))

  pub next-many : (b : BodyOrder) → Some b ≡ entry_read n xs → 1000000 < total_blocks n (earlier ++ b ∷ []) → None ≡ next_body n earlier xs
  next-many b e h =
      follow-so b false e (and_right (not (name_in b.name earlier)) _ (and_right (not (is_ctr b.mode && ctr_start_in b.start earlier)) _
      (lt-leb (total_blocks n (earlier ++ b ∷ [])) 1000000 h)))

  pub next-good : (b : BodyOrder) → Some b ≡ entry_read n xs → false ≡ name_in b.name earlier
      → false ≡ (is_ctr b.mode && ctr_start_in b.start earlier) → total_blocks n (earlier ++ b ∷ []) ≤ 1000000 → Some b ≡ next_body n earlier xs
  next-good b e s t h = follow-so b true e (rw (sym s, sym t, le-leb (total_blocks n (earlier ++ b ∷ [])) 1000000 h))

module _ (n : ℕ) (earlier : List BodyOrder) (count i : ℕ) (xs : List ℕ) (less : i < count) where
  unfolded : bodies_from n earlier (count - i) (drop (56 * i) xs)
      ≡ go_on (Entry (length earlier + 1)) (next_body n earlier (take 56 (drop (56 * i) xs))) (λ b. bodies_from n (earlier ++ b ∷ []) (count - (i + 1)) (drop (56 * (i + 1)) xs))
  unfolded =
      let one : count - i ≡ suc (count - (i + 1)) = omega arith in
      let on : drop 56 (drop (56 * i) xs) ≡ drop (56 * (i + 1)) xs =
      drop-drop 56 (56 * i) xs ∙ ap (λ (k : ℕ). drop k xs) (let h : 56 * i + 56 ≡ 56 * (i + 1) = omega arith in h) in
      ap (λ (k : ℕ). bodies_from n earlier k (drop (56 * i) xs)) one
      ∙ ap (λ (ys : List ℕ). go_on (Entry (length earlier + 1)) (next_body n earlier (take 56 (drop (56 * i) xs))) (λ b. bodies_from n (earlier ++ b ∷ []) (count - (i + 1)) ys)) on

  pub walk-stops : (whole : Result (List BodyOrder) ContentsFault) → bodies_from n earlier (count - i) (drop (56 * i) xs) ≡ whole
      → None ≡ next_body n earlier (take 56 (drop (56 * i) xs)) → length earlier ≡ i → Err (Entry (i + 1)) ≡ whole
  walk-stops whole inv none many =
      sym (sym inv ∙ unfolded
      ∙ ap (λ (o : Option BodyOrder). go_on (Entry (length earlier + 1)) o (λ b. bodies_from n (earlier ++ b ∷ []) (count - (i + 1)) (drop (56 * (i + 1)) xs))) (sym none)
      ∙ ap (λ (k : ℕ). Err (Entry (k + 1))) many)

  pub walk-goes : (whole : Result (List BodyOrder) ContentsFault) (b : BodyOrder) → bodies_from n earlier (count - i) (drop (56 * i) xs) ≡ whole
      → Some b ≡ next_body n earlier (take 56 (drop (56 * i) xs))
      → bodies_from n (earlier ++ b ∷ []) (count - (i + 1)) (drop (56 * (i + 1)) xs) ≡ whole
  walk-goes whole b inv some =
      sym (sym inv ∙ unfolded
      ∙ ap (λ (o : Option BodyOrder). go_on (Entry (length earlier + 1)) o (λ b. bodies_from n (earlier ++ b ∷ []) (count - (i + 1)) (drop (56 * (i + 1)) xs))) (sym some))

-- the bytes of an entry by its place
pub chunk-at : (k i : ℕ) (xs d : List ℕ) → i < k → get_or (first_chunks 56 k xs) i d ≡ take 56 (drop (56 * i) xs)
chunk-at zero i xs d h = absurd (omega arith)
chunk-at (suc k) zero xs d h = refl
chunk-at (suc k) (suc i) xs d h =
    let e : 56 + 56 * i ≡ 56 * suc i = omega arith in
    chunk-at k i (drop 56 xs) d (omega arith) ∙ ap (take 56) (drop-drop (56 * i) 56 xs ∙ ap (λ (m : ℕ). drop m xs) e)
