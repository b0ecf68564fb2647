use Rattle.std.proofs.Common.{◌≡◌, ℕ, List, ◌++◌, take, vec_items, sym, ap, ◌∙◌, arith, rules}
use Rattle.std.proofs.lemmas.List.{take_at}
use Rattle.modes.specs.OpenState.{opened_so_far}
use Rattle.mode_tests.proofs.cbc_runs.open_piece.Goals as goal

pub returns : goal.returns
returns g c =
    let k = c.in_ok-count.count in
    let after : c.as_slice.result.now ≡ take k c.take.new.out =
    c.as_slice.ensures.value ∙ c.truncate.ensures.items ∙ ap (take k) (take_at c.take.new.out _ _ (omega arith)) in
    let out : vec_items c.extend_from_slice.new.self ≡ vec_items c.args.out.now ++ c.as_slice.result.now = search rules in
    record {
      opened = λ m iv taken before s at h.
          let j = c.in_ok-count.ensures.after.0 m iv taken before s at in
          (j.0, out ∙ ap (λ (x : List ℕ). x ++ c.as_slice.result.now) h ∙ ap (λ (x : List ℕ). opened_so_far m iv before taken ++ x) after ∙ sym j.1);
      same = c.take.ensures.same;
    }
