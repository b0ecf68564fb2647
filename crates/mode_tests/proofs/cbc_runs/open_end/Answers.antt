use Rattle.std.proofs.Common.{◌≡◌, ℕ, List, ◌++◌, take, vec_items, sym, ap, ◌∙◌, rules}
use Rattle.modes.specs.OpenState.{opened_so_far}
use Rattle.mode_tests.proofs.cbc_runs.open_end.Goals as goal

pub returns : goal.returns
returns g c =
    let last = c.in_ok-last.last in
    let k = c.args.rest in
    let cut : c.as_slice.result.now ≡ take k last = search rules in
    let out : vec_items c.extend_from_slice.new.self ≡ vec_items c.args.out.now ++ c.as_slice.result.now = search rules in
    record {
      opened = λ m iv sealed before s at h.
          (last, sym (c.in_ok-last.ensures.last m iv sealed before s at), out ∙ ap (λ (x : List ℕ). x ++ c.as_slice.result.now) h ∙ ap (λ (x : List ℕ). opened_so_far m iv before sealed ++ x) cut);
      same = c.finish.ensures.same;
    }
