use Rattle.std.proofs.Common.{ℕ, List, take, sym, subst}
use Rattle.std.proofs.lemmas.Result.{IfOk-from_err}
use Rattle.block.specs.Blocks.{Meaning, Same}
use Rattle.modes.proofs.Streams.{same_then}
use Rattle.modes.specs.CbcState.{CbcAt, sealed_so_far}
use Rattle.modes_spec.specs.Cbc.{cbc_sealed}
use Rattle.mode_tests.specs.Runs.{TaggedAt}
use Rattle.mode_tests.proofs.Feeding.{fed-none, fed-piece, fed-all, same_self, lawful-same, cbc-nil}
use Rattle.mode_tests.proofs.cbc_runs.seal.Goals as goal

pub loop-cut-init : goal.loop-cut-init
loop-cut-init g c =
    let m = g.C.BlockCipher.meaning c.args.cipher.now in
    let o = g.T.BlockCipher.meaning c.args.tag_cipher.now in
    let l = g.met.C.BlockCipher.lawful c.args.cipher.now in
    let k = g.met.T.BlockCipher.lawful c.args.tag_cipher.now in (
      same_self m,
      same_self o,
      fed-none (λ taken. (p q : Meaning) → Same p m → Same q o → CbcAt p (take p.size c.args.feed.start.now) taken c.new-sealer.result × TaggedAt q (sealed_so_far p (take p.size c.args.feed.start.now) taken) c.new-out.result)
          c.args.feed.text.now
          (λ p q e f. (
            c.new-sealer.ensures p (lawful-same p m e l),
            subst (λ (x : List ℕ). TaggedAt q x c.new-out.result) (sym (cbc-nil p (take p.size c.args.feed.start.now) (lawful-same p m e l))) (c.new-out.ensures q (lawful-same q o f k)),
          )),
    )

pub returns-in_err-seal_piece : goal.returns-in_err-seal_piece
returns-in_err-seal_piece g c =
    let s = same_then _ _ _ c.loop-cut.invariant.0 c.seal_piece.ensures.same in
    let t = same_then _ _ _ c.loop-cut.invariant.1 c.seal_piece.ensures.tag_same in
    record { sealed = IfOk-from_err c.from_residual.result _ c.from_residual.ensures.0; same = s; tag_same = t }

pub loop-cut-preserved : goal.loop-cut-preserved
loop-cut-preserved g c =
    let m = g.C.BlockCipher.meaning c.args.cipher.now in
    let o = g.T.BlockCipher.meaning c.args.tag_cipher.now in
    let s = c.loop-cut.invariant.0 in
    let t = c.loop-cut.invariant.1 in (
      same_then m _ _ s c.seal_piece.ensures.same,
      same_then o _ _ t c.seal_piece.ensures.tag_same,
      fed-piece (λ taken. (p q : Meaning) → Same p m → Same q o → CbcAt p (take p.size c.args.feed.start.now) taken c.loop-cut.sealer × TaggedAt q (sealed_so_far p (take p.size c.args.feed.start.now) taken) c.loop-cut.out)
          (λ taken. (p q : Meaning) → Same p m → Same q o → CbcAt p (take p.size c.args.feed.start.now) taken c.seal_piece.new.sealer × TaggedAt q (sealed_so_far p (take p.size c.args.feed.start.now) taken) c.seal_piece.new.out)
          _ _ c.loop-cut.rest.now c.args.feed.text.now c.cut_off.ensures.joined
          (λ taken h p q e f. c.in_ok-seal_piece.ensures.sealed p q _ taken (same_then p m _ e s) (same_then q o _ f t) (h p q e f).0 (h p q e f).1) c.loop-cut.invariant.2,
    )

pub returns-in_err-seal_piece-2 : goal.returns-in_err-seal_piece-2
returns-in_err-seal_piece-2 g c =
    let s = same_then _ _ _ c.loop-cut.invariant.0 c.seal_piece-2.ensures.same in
    let t = same_then _ _ _ c.loop-cut.invariant.1 c.seal_piece-2.ensures.tag_same in
    record { sealed = IfOk-from_err c.from_residual-in_err-seal_piece-2.result _ c.from_residual-in_err-seal_piece-2.ensures.0; same = s; tag_same = t }

pub returns-in_err-seal_end : goal.returns-in_err-seal_end
returns-in_err-seal_end g c =
    let s = same_then _ _ _ (same_then _ _ _ c.loop-cut.invariant.0 c.seal_piece-2.ensures.same) c.seal_end.ensures.same in
    let t = same_then _ _ _ (same_then _ _ _ c.loop-cut.invariant.1 c.seal_piece-2.ensures.tag_same) c.seal_end.ensures.tag_same in
    record { sealed = IfOk-from_err c.from_residual-in_err-seal_end.result _ c.from_residual-in_err-seal_end.ensures.0; same = s; tag_same = t }

pub returns : goal.returns
returns g c =
    let m = g.C.BlockCipher.meaning c.args.cipher.now in
    let o = g.T.BlockCipher.meaning c.args.tag_cipher.now in
    let text = c.args.feed.text.now in
    let s = c.loop-cut.invariant.0 in
    let t = c.loop-cut.invariant.1 in
    let s2 = same_then m _ _ s c.seal_piece-2.ensures.same in
    let t2 = same_then o _ _ t c.seal_piece-2.ensures.tag_same in
    let at =
    fed-all (λ taken. (p q : Meaning) → Same p m → Same q o → CbcAt p (take p.size c.args.feed.start.now) taken c.loop-cut.sealer × TaggedAt q (sealed_so_far p (take p.size c.args.feed.start.now) taken) c.loop-cut.out)
    (λ taken. (p q : Meaning) → Same p m → Same q o → CbcAt p (take p.size c.args.feed.start.now) taken c.seal_piece-2.new.sealer × TaggedAt q (sealed_so_far p (take p.size c.args.feed.start.now) taken) c.seal_piece-2.new.out)
    c.loop-cut.rest.now text
    (λ taken h p q e f. c.in_ok-seal_piece-2.ensures.sealed p q _ taken (same_then p m _ e s) (same_then q o _ f t) (h p q e f).0 (h p q e f).1) c.loop-cut.invariant.2 in
    let t3 = same_then o _ _ t2 c.seal_end.ensures.tag_same in
    record {
      sealed = λ p q e f.
          c.finish.ensures.finished q (cbc_sealed p (take p.size c.args.feed.start.now) text) (same_then q o _ f t3)
          (c.in_ok-seal_end.ensures.sealed p q _ text (same_then p m _ e s2) (same_then q o _ f t2) (at p q e f).0 (at p q e f).1);
      same = same_then m _ _ s2 c.seal_end.ensures.same;
      tag_same = same_then o _ _ t3 c.finish.ensures.same;
    }
