use Rattle.std.proofs.Common.{◌≡◌, ℕ, List, vec_items, sym, ap, ◌∙◌, rules}
use Rattle.std.proofs.lemmas.Slice.Eq.{slice_eq-Decides}
use Rattle.mode_tests.specs.Agreement.{sealed_by, whole_mac}
use Rattle.mode_tests.proofs.trial.try_sealed.Goals as goal
use Rattle.std.proofs.lemmas.Bool.Decides.{Decides-eqb}

pub returns : goal.returns
returns g c =
    let made = c.in_ok-sealed.sealed in
    let i = c.args.input.now in
    let d = slice_eq-Decides Decides-eqb c.as_slice.result.now c.as_slice-2.result.now c.eq-seals.result c.eq-seals.ensures in
    let d2 = slice_eq-Decides Decides-eqb c.in_ok-sealed.sealed.tag c.args.input.now.tag c.eq-tags.result c.eq-tags.ensures in
    λ m o e f.
    let text = c.as_slice-text.ensures.value in
    let h = c.in_ok-sealed.ensures.sealed m o e f in (
      λ t. let q : vec_items made.bytes ≡ vec_items i.sealed = search (rules, d, t) in
          ap (λ (x : List ℕ). sealed_by c.args.mode m i.start x) (sym text) ∙ sym h.0 ∙ q,
      λ t. let q : made.tag ≡ i.tag = search (rules, d2, t) in
          ap (λ (x : List ℕ). whole_mac o (sealed_by c.args.mode m i.start x)) (sym text) ∙ sym h.1 ∙ q,
    )
