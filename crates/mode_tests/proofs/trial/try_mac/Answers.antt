use Rattle.std.proofs.Common.{◌≡◌, sym, ap, ◌∙◌, rules}
use Rattle.std.proofs.lemmas.Slice.Eq.{slice_eq-Decides}
use Rattle.modes.proofs.Streams.{same_then}
use Rattle.mode_tests.specs.Agreement.{whole_mac}
use Rattle.mode_tests.proofs.trial.try_mac.Goals as goal
use Rattle.std.proofs.lemmas.Bool.Decides.{Decides-eqb}

pub returns : goal.returns
returns g c =
    let d = slice_eq-Decides Decides-eqb c.mac_of-first.result c.args.input.now.mac c.eq.result c.eq.ensures in
    let d2 = slice_eq-Decides Decides-eqb c.mac_of-other.result c.args.input.now.mac c.eq-2.result c.eq-2.ensures in
    λ m e.
    let text = c.as_slice-text.ensures.value in
    let v = c.mac_of-first.ensures.value m e in
    let w = c.mac_of-other.ensures.value m (same_then m _ _ e c.mac_of-first.ensures.same) in (
      λ t. let q : c.mac_of-first.result ≡ c.args.input.now.mac = search (rules, d, t) in ap (whole_mac m) (sym text) ∙ sym v ∙ q,
      λ t. let q : c.mac_of-other.result ≡ c.args.input.now.mac = search (rules, d2, t) in ap (whole_mac m) (sym text) ∙ sym w ∙ q,
    )
