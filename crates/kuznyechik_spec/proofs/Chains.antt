-- A chain that ends in a fold, where w reads the state of the fold.
use Rattle.std.proofs.Common.{◌≡◌, Option, List, [], ◌∷◌, map, sym, refl, ap, ◌∙◌, subst}
use denote.Param.Members.{Mut, Called}
use Rattle.std.specs.Iterator.{Drains}
use Rattle.std.specs.List.{fold, FoldsTo}
use Rattle.std.proofs.iter.Yields.{gives_Drains}
use Rattle.std.proofs.lemmas.Iterator.{YieldsList}

module _ {A B C D F : Type 0} (v : A → B) (g : Mut F (C × (A × Unit {0})) C) (w : C → D) (h : D → B → D) (f : F)
    (k : (a : C) (x : A) (b : C) (q : F) → Called g f (a, (x, tt)) b q → (q ≡ f) × (w b ≡ h (w a) (v x))) where
  folds : (xs : List A) (p q : F × C) → p.0 ≡ f → FoldsTo {P = F × C} (λ a x b. Called g a.0 (a.1, (x, tt)) b.1 b.0) p xs q → w q.1 ≡ fold h (w p.1) (map v xs)
  folds [] p q e c = ap (λ a. w a.1) (sym c)
  folds (x ∷ xs) p q e c =
      let m = k p.1 x c.0.1 c.0.0 (subst (λ a. Called g a (p.1, (x, tt)) c.0.1 c.0.0) e c.1) in
      folds xs c.0 q m.0 c.2 ∙ ap (λ b. fold h b (map v xs)) m.1

pub fold-seen : {S A B C D F : Type 0} {steps : S → Option A → S → Type 0} {v : A → B} {s : S} {all : List B} (g : Mut F (C × (A × Unit {0})) C) (w : C → D) (h : D → B → D) {f : F} (init r : C)
    → ((xs : List A) × (q : F) × Drains steps s xs × FoldsTo {P = F × C} (λ a x b. Called g a.0 (a.1, (x, tt)) b.1 b.0) (f, init) xs (q, r)) → YieldsList steps v s all
    → ((a : C) (x : A) (b : C) (q : F) → Called g f (a, (x, tt)) b q → (q ≡ f) × (w b ≡ h (w a) (v x))) → w r ≡ fold h (w init) all
fold-seen {steps = steps} {v} {s} {all} g w h {f} init r d e k =
    folds v g w h f k d.0 (f, init) (d.1, r) refl d.3 ∙ ap (fold h (w init)) (gives_Drains steps v d.0 all s e.runs d.2)
