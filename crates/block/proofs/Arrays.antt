-- An array made by `map` or `from_fn`, as a list.
use Rattle.std.proofs.Common.{◌≡◌, ℕ, zero, suc, ◌+◌, ◌<◌, ◌≤◌, List, map, length, get_or, sym, refl, ap, ◌∙◌, subst, arith}
use Rattle.std.proofs.lemmas.Grind.{same_number_lists}
use Rattle.std.proofs.lemmas.List.{get_or-map, length-map}
use denote.Param.Members.{Mut, Called}
use Rattle.std.specs.Array.{IsMapOf, IsFromFnResult, IsFromFnResultFrom}

-- calls that give h of each
pub mapped : {F A : Type 0} {g : Mut F (A × Unit {0}) ℕ} {f : F} (h : A → ℕ) (d : A) {xs : List A} {ys : List ℕ} {n : ℕ} → length xs ≡ n
    → IsMapOf g f xs ys n → ((p q : F) (x : A) (y : ℕ) → Called g p (x, tt) y q → y ≡ h x) → ys ≡ map h xs
mapped h d {xs} {ys} {n} long m calls =
    same_number_lists ys (map h xs) (m.long ∙ sym long ∙ sym (length-map xs h))
    (λ k below.
    let within : k < n = subst (λ l. k < l) m.long below in
    let call = m.at k d 0 within in
    calls call.0 call.1 (get_or xs k d) (get_or ys k 0) call.2 ∙ sym (get_or-map h xs k d 0 (subst (λ l. k < l) (sym long) within)))

-- calls that leave f as it is, and give h of the index
filled-from : {F : Type 0} {g : Mut F (ℕ × Unit {0}) ℕ} {f : F} (h : ℕ → ℕ) (ys : List ℕ) (top : ℕ)
    → ((p q : F) (i y : ℕ) → p ≡ f → i < top → Called g p (i, tt) y q → (q ≡ f) × (y ≡ h i))
    → (n i : ℕ) (p : F) → i + n ≤ top → p ≡ f → IsFromFnResultFrom g p ys i n → (k : ℕ) → k < n → get_or ys (i + k) 0 ≡ h (i + k)
filled-from h ys top calls zero i p l e m k b = absurd (omega arith)
filled-from h ys top calls (suc n) i p l e m zero b =
    let call = calls p m.0 i m.1 e (omega arith) m.3 in
    let z : i + 0 ≡ i = omega arith in
    ap (λ j. get_or ys j 0) z ∙ m.2.1 0 ∙ call.1 ∙ ap h (sym z)
filled-from h ys top calls (suc n) i p l e m (suc k) b =
    let call = calls p m.0 i m.1 e (omega arith) m.3 in
    let z : i + suc k ≡ i + 1 + k = omega arith in
    ap (λ j. get_or ys j 0) z ∙ filled-from h ys top calls n (i + 1) m.0 (omega arith) call.0 m.4 k (omega arith) ∙ ap h (sym z)

pub filled : {F : Type 0} {g : Mut F (ℕ × Unit {0}) ℕ} {f : F} (xs : List ℕ) {ys : List ℕ} {n : ℕ} → length xs ≡ n
    → ((p q : F) (i y : ℕ) → p ≡ f → i < n → Called g p (i, tt) y q → (q ≡ f) × (y ≡ get_or xs i 0)) → IsFromFnResult g f ys n → ys ≡ xs
filled {f = f} xs {ys} {n} long calls m =
    same_number_lists ys xs (m.long ∙ sym long)
    (λ k below.
    let z : 0 + k ≡ k = omega arith in
    ap (λ j. get_or ys j 0) (sym z)
    ∙ filled-from (λ j. get_or xs j 0) ys n calls n 0 f (omega arith) refl m.each k (subst (λ l. k < l) m.long below) ∙ ap (λ j. get_or xs j 0) z)
