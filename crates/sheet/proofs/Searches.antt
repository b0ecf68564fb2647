-- Searches among the slots.
use Rattle.std.proofs.Common.{◌≡◌, ℕ, ◌≤◌, Bool, ◌&&◌, ◌||◌, List, [], ◌∷◌, map, length, refl, sym, ap, ◌∙◌, ap₂, arith}
use Rattle.std.specs.List.{list_any}
use Rattle.std.specs.Str.{bytes_eq}
use Rattle.sheet_format.specs.Lines.{Body}
use Rattle.sheet_format.specs.Orders.{has_ctr_start, has_name, is_ctr}
use Rattle.sheet_format.specs.declared.Mode.{Mode}
use Rattle.sheet_format.specs.declared.Mode.TheVariants.{Ctr, Cbc}
use Rattle.sheet.specs.Slots.{name_kept, start_kept, in_ctr, ctr_start}
use Rattle.sheet.specs.Kept.{slots_in, Keeps}
use Rattle.sheet.specs.declared.kept.Kept.{Kept}

pub any-map : {X Y : Type 0} (p : Y → Bool) (h : X → Y) (xs : List X) → list_any p (map h xs) ≡ list_any (λ x. p (h x)) xs
any-map p h [] = refl
any-map p h (x ∷ xs) = ap (λ (t : Bool). p (h x) || t) (any-map p h xs)

pub names-found : (k : Kept) (bodies : List Body) (name : List ℕ) → Keeps k bodies
    → list_any (λ s. bytes_eq (name_kept s) name) (slots_in k) ≡ has_name name bodies
names-found k bodies name e =
    sym (any-map (λ n. bytes_eq n name) name_kept (slots_in k)) ∙ ap (list_any (λ n. bytes_eq n name)) e.names
    ∙ any-map (λ n. bytes_eq n name) (λ b. b.name) bodies

in-ctr : (m : Mode) (start text : List ℕ) → 1 ≤ length text → bytes_eq (in_ctr m start) text ≡ (is_ctr m && bytes_eq start text)
in-ctr Ctr start text h = refl
in-ctr Cbc start [] h = absurd (let f : ⊥ = omega arith in f)
in-ctr Cbc start (x ∷ text) h = refl

starts-same : (text : List ℕ) (bodies : List Body) → 1 ≤ length text
    → list_any (λ b. bytes_eq (ctr_start b) text) bodies ≡ has_ctr_start text bodies
starts-same text [] h = refl
starts-same text (b ∷ bodies) h = ap₂ (λ (s t : Bool). s || t) (in-ctr b.mode b.start text h) (starts-same text bodies h)

pub starts-found : (k : Kept) (bodies : List Body) (start : List ℕ) → Keeps k bodies → 1 ≤ length start
    → list_any (λ s. bytes_eq (start_kept s) start) (slots_in k) ≡ has_ctr_start start bodies
starts-found k bodies start e h =
    sym (any-map (λ n. bytes_eq n start) start_kept (slots_in k)) ∙ ap (list_any (λ n. bytes_eq n start)) e.starts
    ∙ any-map (λ n. bytes_eq n start) ctr_start bodies ∙ starts-same start bodies h
