use Rattle.std.proofs.Common.{◌≡◌, ℕ, ◌+◌, ◌-◌, ◌*◌, ◌/◌, true, false, eqb, length, ap, ◌∙◌, ⊎_elim}
use Rattle.set_format.specs.Sets.{tag_text}
use Rattle.set_format.proofs.Tags.{length-tag_text, chosen}
use Rattle.examples.proofs.tag_examples_hold.Goals as goal

pub returns : goal.returns
returns c = λ t o k b bytes sized h. (
  λ e.
      let l : length (tag_text o t.size k b bytes) ≡ 64 = length-tag_text o t.size k b bytes h ∙ ap (λ (x : ℕ). 61 + x) e in
      (l, chosen t 64 (tag_text o t.size k b bytes) true l (⊎_elim (λ (s : t.size ≡ 8). ap (λ (n : ℕ). eqb (64 - n * (63 / n)) n) s) (λ (s : t.size ≡ 16). ap (λ (n : ℕ). eqb (64 - n * (63 / n)) n) s) sized)),
  λ e.
      let l : length (tag_text o t.size k b bytes) ≡ 65 = length-tag_text o t.size k b bytes h ∙ ap (λ (x : ℕ). 61 + x) e in
      (l, chosen t 65 (tag_text o t.size k b bytes) false l (⊎_elim (λ (s : t.size ≡ 8). ap (λ (n : ℕ). eqb (65 - n * (64 / n)) n) s) (λ (s : t.size ≡ 16). ap (λ (n : ℕ). eqb (65 - n * (64 / n)) n) s) sized)),
)
