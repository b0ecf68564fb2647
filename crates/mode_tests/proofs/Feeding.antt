-- A text that is fed in pieces, and what a call that was not refused has made.
use Rattle.std.proofs.Common.{◌≡◌, ℕ, ◌+◌, ◌-◌, ◌/◌, ◌<◌, min, ◌⊎◌, List, [], ◌++◌, IfOk, Ok, Err, Result, sym, refl, ap, ◌∙◌, subst, append_assoc, arith}
use native.Mathlib.Nat.{div-eq_of_lt}
use Rattle.block.specs.Blocks.{Block, Meaning, Lawful, Same}
use Rattle.modes.specs.CbcState.{sealed_so_far}
use Rattle.modes.specs.OpenState.{opened_so_far}
use Rattle.modes_spec.specs.Cbc.{opened_blocks}
use Rattle.modes_spec.specs.Ctr.{ctr, joined_with}
use Rattle.modes_spec.specs.Texts.{joined_to}
use Rattle.modes_spec.proofs.Cbc.{size-pos}

-- of the text, P holds of what was taken, and this is the rest
abbrev pub Fed : (List ℕ → Type 0) → List ℕ → List ℕ → Type 0
Fed P rest text = (taken : List ℕ) × (taken ++ rest ≡ text) × P taken

pub fed-none : (P : List ℕ → Type 0) (text : List ℕ) → P [] → Fed P text text
fed-none P text p = ([], refl, p)

pub fed-piece : (P Q : List ℕ → Type 0) (piece tail rest text : List ℕ) → rest ≡ piece ++ tail → ((taken : List ℕ) → P taken → Q (taken ++ piece))
    → Fed P rest text → Fed Q tail text
fed-piece P Q piece tail rest text e step f =
    (f.0 ++ piece, append_assoc f.0 piece tail ∙ ap (λ (x : List ℕ). f.0 ++ x) (sym e) ∙ f.1, step f.0 f.2)

pub fed-all : (P Q : List ℕ → Type 0) (rest text : List ℕ) → ((taken : List ℕ) → P taken → Q (taken ++ rest)) → Fed P rest text → Q text
fed-all P Q rest text step f = subst Q f.1 (step f.0 f.2)

pub made_then : {A E : Type 0} (P Q : A → Type 0) (r : Result A E) → ((x : A) → P x → Q x) → IfOk r P → IfOk r Q
made_then P Q (Ok x) step h = step x h
made_then P Q (Err e) step h = tt

pub same_self : (m : Meaning) → Same m m
same_self m = record { sizes = refl; forwards = λ b h. refl; inverses = λ b h. refl }

-- what means the same as a lawful cipher is lawful
pub lawful-same : (m o : Meaning) → Same m o → Lawful o → Lawful m
lawful-same m o s l =
    let there : (b : List ℕ) → Block m.size b → Block o.size b = λ b h. subst (λ (k : ℕ). Block k b) s.sizes h in
    let back : (b : List ℕ) → Block o.size b → Block m.size b = λ b h. subst (λ (k : ℕ). Block k b) (sym s.sizes) h in
    let forward : (b : List ℕ) → Block m.size b → Block m.size (m.forward b) =
    λ b h. subst (λ (x : List ℕ). Block m.size x) (sym (s.forwards b h)) (back _ (l.forward-block b (there b h))) in
    let inverse : (b : List ℕ) → Block m.size b → Block m.size (m.inverse b) =
    λ b h. subst (λ (x : List ℕ). Block m.size x) (sym (s.inverses b h)) (back _ (l.inverse-block b (there b h))) in
    record {
      sized = subst (λ (k : ℕ). (k ≡ 8) ⊎ (k ≡ 16)) (sym s.sizes) l.sized;
      forward-block = forward;
      inverse-block = inverse;
      undone = λ b h. s.inverses (m.forward b) (forward b h) ∙ ap o.inverse (s.forwards b h) ∙ l.undone b (there b h);
      redone = λ b h. s.forwards (m.inverse b) (inverse b h) ∙ ap o.forward (s.inverses b h) ∙ l.redone b (there b h);
    }

no_blocks : (n : ℕ) → 0 < n → (0 + (n - 1)) / n ≡ 0
no_blocks n h = div-eq_of_lt (omega arith)

-- ctr of nothing
pub ctr-nil : (m : Meaning) (start : List ℕ) → Lawful m → ctr m start [] ≡ []
unfolding joined_with joined_to
ctr-nil m start l = simp (no_blocks m.size (size-pos m l))

-- no block of nothing is whole
pub cbc-nil : (m : Meaning) (iv : List ℕ) → Lawful m → sealed_so_far m iv [] ≡ []
unfolding joined_to
cbc-nil m iv l = simp (div-eq_of_lt (size-pos m l))

-- nothing of nothing is opened
pub open-nil : (m : Meaning) (iv : List ℕ) (before : ℕ) → Lawful m → opened_so_far m iv before [] ≡ []
unfolding joined_to
open-nil m iv before l =
    let d : 0 / m.size ≡ 0 = div-eq_of_lt (size-pos m l) in
    let e : min (0 / m.size) before ≡ 0 = omega (arith, d) in
    ap (λ (q : ℕ). opened_blocks m iv [] q) e
