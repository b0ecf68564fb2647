-- A text and what stands before and after its first byte of a kind.
use Rattle.std.proofs.Common.{◌≡◌, ℕ, Bool, true, false, eqb, List, [], ◌∷◌, ◌++◌, Some, None, Option, sym, refl, ap, ◌∙◌, subst, ap₂, ⊎_elim}
use Rattle.std.proofs.ByRecursion.{All-weaker}
use Rattle.std.proofs.lemmas.Bool.{cases_Bool, eqb-true, eqb-false, eq-eqb, ne_eqb, both_ways}
use Rattle.std.specs.List.{AllByRecursion}
use Rattle.sheet_format.specs.Lines.{grown, cut_of}
use Rattle.sheet_laws.specs.Grammar.{Lacks}
use Rattle.sheet_laws.proofs.Clash.{clash}

-- where every byte passes a test that `at` fails
pub lacks-failing : (test : ℕ → Bool) (at : ℕ) → test at ≡ false → (xs : List ℕ) → AllByRecursion (λ x. test x ≡ true) xs → Lacks at xs
lacks-failing test at fails xs all =
    All-weaker (λ x. test x ≡ true) (λ x. x ≡ at → ⊥) (λ x t e. both_ways (test at) fails (rw e at t)) xs all

grown-some : (x : ℕ) (w r : List ℕ) (o : Option (List ℕ × List ℕ)) → grown x o ≡ Some (w, r)
    → (v : List ℕ) × (o ≡ Some (v, r)) × (w ≡ x ∷ v)
grown-some x w r None e = clash (cc)
grown-some x w r (Some p) e =
    let q : (x ∷ p.0, p.1) ≡ (w, r) = cc in
    (p.0, ap (λ (rest : List ℕ). Some (p.0, rest)) (ap (λ (t : List ℕ × List ℕ). t.1) q), sym (ap (λ (t : List ℕ × List ℕ). t.0) q))

-- a cut gives the text back, and the first part lacks the byte
pub cut-found : (at : ℕ) (xs w r : List ℕ) → cut_of at xs ≡ Some (w, r) → (xs ≡ w ++ at ∷ r) × Lacks at w
cut-found at [] w r e = clash (cc)
cut-found at (x ∷ xs) w r e =
    ⊎_elim
    (λ (t : eqb x at ≡ true).
    let g : Some ([], xs) ≡ Some (w, r) = rw t at e in
    let p : ([], xs) ≡ (w, r) = cc in
    let a : [] ≡ w = ap (λ (t : List ℕ × List ℕ). t.0) p in
    let b : xs ≡ r = ap (λ (t : List ℕ × List ℕ). t.1) p in
    (ap₂ ◌∷◌ (eqb-true x at t) b ∙ ap (λ (u : List ℕ). u ++ at ∷ r) a, subst (Lacks at) a tt))
    (λ (t : eqb x at ≡ false).
    let g = grown-some x w r (cut_of at xs) (rw t at e) in
    let h = cut-found at xs g.0 r g.1 in (
      ap (λ (ys : List ℕ). x ∷ ys) h.0 ∙ ap (λ (u : List ℕ). u ++ at ∷ r) (sym g.2),
      subst (Lacks at) (sym g.2) (eqb-false x at t, h.1),
    ))
    (cases_Bool (eqb x at))

pub cut-made : (at : ℕ) (w r : List ℕ) → Lacks at w → cut_of at (w ++ at ∷ r) ≡ Some (w, r)
cut-made at [] r h = rw (eq-eqb at at refl)
cut-made at (x ∷ w) r h = rw (ne_eqb x at h.0, cut-made at w r h.1)
