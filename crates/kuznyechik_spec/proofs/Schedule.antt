-- The key schedule from its rounds.
use Rattle.std.proofs.Common.{◌≡◌, ℕ, zero, suc, List, [], ◌∷◌, take, drop, refl, ap, ◌∙◌, ap₂, add-one}
use Rattle.std.specs.List.{fold, range_with_len}
use Rattle.kuznyechik_spec.specs.Kuznyechik.{iteration_constant, Halves, halves, feistel_round, feistel_rounds, schedule, round_keys}

-- F by each constant in turn
pub rounds-folded : (n i : ℕ) (t : Halves) → fold (λ u j. feistel_round (iteration_constant j) u) t (range_with_len i n) ≡ feistel_rounds n i t
unfolding feistel_rounds
rounds-folded zero i t = refl
rounds-folded (suc n) i t =
    let next = feistel_round (iteration_constant i) t in
    ap (λ m. fold (λ u j. feistel_round (iteration_constant j) u) next (range_with_len m n)) (add-one i) ∙ rounds-folded n (suc i) next

-- the pairs of round keys, each from the one before
pub rows_from : (key x y : List ℕ) (t u v w : Halves) → x ≡ take 16 key → y ≡ drop 16 key → t ≡ feistel_rounds 8 1 (halves x y)
    → u ≡ feistel_rounds 8 9 t → v ≡ feistel_rounds 8 17 u → w ≡ feistel_rounds 8 25 v
    → x ∷ y ∷ t.left ∷ t.right ∷ u.left ∷ u.right ∷ v.left ∷ v.right ∷ w.left ∷ w.right ∷ [] ≡ round_keys key
unfolding round_keys schedule
rows_from key x y t u v w a b c d e f =
    ap (λ r. x ∷ y ∷ t.left ∷ t.right ∷ u.left ∷ u.right ∷ v.left ∷ v.right ∷ schedule 1 33 r) f
    ∙ ap (λ r. x ∷ y ∷ t.left ∷ t.right ∷ u.left ∷ u.right ∷ schedule 2 25 r) e
    ∙ ap (λ r. x ∷ y ∷ t.left ∷ t.right ∷ schedule 3 17 r) d
    ∙ ap (λ r. x ∷ y ∷ schedule 4 9 r) c
    ∙ ap₂ (λ l r. schedule 5 1 (halves l r)) a b
