-- A text is filled in one way only.
use Rattle.std.proofs.Common.{◌≡◌, ℕ, zero, suc, List, [], ◌∷◌, ◌++◌, refl, ap₂, arith}
use Rattle.modes_spec.specs.Texts.{zeros}

-- zeros have no byte 80
no-mark : (j : ℕ) (a : List ℕ) (k : ℕ) → zeros j ≡ a ++ (128 ∷ zeros k) → ⊥
no-mark zero [] k e = let z : ◌≡◌ {A = ℕ} 0 1 = cc in omega arith
no-mark zero (x ∷ a) k e = let z : ◌≡◌ {A = ℕ} 0 1 = cc in omega arith
no-mark (suc j) [] k e = let z : ◌≡◌ {A = ℕ} 0 128 = cc in omega arith
no-mark (suc j) (x ∷ a) k e = let t : zeros j ≡ a ++ (128 ∷ zeros k) = cc in no-mark j a k t

pub filled-once : (a b : List ℕ) (j k : ℕ) → a ++ (128 ∷ zeros j) ≡ b ++ (128 ∷ zeros k) → a ≡ b
filled-once [] [] j k e = refl
filled-once [] (y ∷ b) j k e = let t : zeros j ≡ b ++ (128 ∷ zeros k) = cc in absurd (no-mark j b k t)
filled-once (x ∷ a) [] j k e = let t : zeros k ≡ a ++ (128 ∷ zeros j) = cc in absurd (no-mark k a j t)
filled-once (x ∷ a) (y ∷ b) j k e =
    let h : x ≡ y = cc in
    let t : a ++ (128 ∷ zeros j) ≡ b ++ (128 ∷ zeros k) = cc in
    ap₂ (λ z zs. z ∷ zs) h (filled-once a b j k t)
