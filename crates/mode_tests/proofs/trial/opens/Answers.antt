use Rattle.std.proofs.Common.{◌≡◌, ℕ, List, vec_items, subst, rules}
use Rattle.std.proofs.lemmas.Slice.Eq.{slice_eq-Decides}
use Rattle.mode_tests.specs.Agreement.{OpenedBy}
use Rattle.mode_tests.proofs.trial.opens.Goals as goal
use Rattle.std.proofs.lemmas.Bool.Decides.{Decides-eqb}

pub returns-in-Some : goal.returns-in-Some
returns-in-Some g c =
    let m = g.C.BlockCipher.meaning c.args.cipher.now in
    let i = c.args.input.now in
    let b = c.in-Some.bytes in
    let x = c.in_ok-extent.extent in
    let d = slice_eq-Decides Decides-eqb c.as_slice.result.now c.as_slice-in-Some.result.now c.eq.result c.eq.ensures in
    let h : OpenedBy c.args.mode m i.start x.before x.rest c.as_slice-sealed.result.now (vec_items b) = search rules in
    λ t.
    let q : vec_items b ≡ vec_items i.text = search (rules, d, t) in (
      x.before,
      x.rest,
      subst (λ (z : List ℕ). OpenedBy c.args.mode m i.start x.before x.rest z (vec_items i.text)) c.as_slice-sealed.ensures.value
          (subst (λ (z : List ℕ). OpenedBy c.args.mode m i.start x.before x.rest c.as_slice-sealed.result.now z) q h),
    )
