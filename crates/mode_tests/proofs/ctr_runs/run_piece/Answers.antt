use Rattle.std.proofs.Common.{◌≡◌, ℕ, List, ◌++◌, sym, ap, ◌∙◌, subst, arith, rules}
use Rattle.std.proofs.lemmas.List.{take_at}
use Rattle.modes_spec.specs.Ctr.{ctr}
use Rattle.modes.specs.CtrState.{CtrAt}
use Rattle.mode_tests.specs.Runs.{TaggedAt}
use Rattle.mode_tests.proofs.ctr_runs.run_piece.Goals as goal

pub returns : goal.returns
returns g c =
    let before : c.as_mut_slice.result.now ≡ c.args.piece.now = search rules in
    let after : c.as_slice.result.now ≡ c.apply.new.bytes = c.as_slice.ensures.value ∙ take_at c.apply.new.bytes _ _ (omega arith) in
    record {
      sealed = λ m o start taken s t at out.
          let j = c.apply.ensures.joined m start taken s at in
          let e : ctr m start (taken ++ c.args.piece.now) ≡ ctr m start taken ++ c.as_slice.result.now =
          ap (λ (x : List ℕ). ctr m start (taken ++ x)) (sym before) ∙ j.1 ∙ ap (λ (x : List ℕ). ctr m start taken ++ x) (sym after) in (
            subst (λ (x : List ℕ). CtrAt m start (taken ++ x) c.apply.new.self) before j.0,
            subst (λ (x : List ℕ). TaggedAt o x c.push.new.self) (sym e) (c.in_ok-push.ensures.pushed o (ctr m start taken) t out),
          );
      same = c.apply.ensures.same;
      tag_same = c.push.ensures.same;
    }
