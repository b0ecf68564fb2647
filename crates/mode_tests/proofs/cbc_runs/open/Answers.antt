use Rattle.std.proofs.Common.{◌≡◌, take, vec_items, sym, ◌∙◌}
use Rattle.block.specs.Blocks.{Meaning, Same}
use Rattle.modes.proofs.Streams.{same_then}
use Rattle.modes.specs.OpenState.{CbcOpenAt, opened_so_far}
use Rattle.mode_tests.proofs.Feeding.{fed-none, fed-piece, fed-all, same_self, lawful-same, open-nil}
use Rattle.mode_tests.proofs.cbc_runs.open.Goals as goal

pub loop-cut-init : goal.loop-cut-init
loop-cut-init g c =
    let m = g.C.BlockCipher.meaning c.args.cipher.now in
    let l = g.met.C.BlockCipher.lawful c.args.cipher.now in
    let b = c.args.extent.before in
    let z = c.args.feed.start.now in (
      same_self m,
      fed-none (λ taken. (p : Meaning) → Same p m → CbcOpenAt p (take p.size z) b taken c.new-opener.result × (vec_items c.new-out.result ≡ opened_so_far p (take p.size z) b taken))
          c.args.feed.text.now
          (λ p e. (c.new-opener.ensures p (lawful-same p m e l), c.new-out.ensures.items ∙ sym (open-nil p (take p.size z) b (lawful-same p m e l)))),
    )

pub loop-cut-preserved : goal.loop-cut-preserved
loop-cut-preserved g c =
    let m = g.C.BlockCipher.meaning c.args.cipher.now in
    let b = c.args.extent.before in
    let z = c.args.feed.start.now in
    let s = c.loop-cut.invariant.0 in (
      same_then m _ _ s c.open_piece.ensures.same,
      fed-piece (λ taken. (p : Meaning) → Same p m → CbcOpenAt p (take p.size z) b taken c.loop-cut.opener × (vec_items c.loop-cut.out ≡ opened_so_far p (take p.size z) b taken))
          (λ taken. (p : Meaning) → Same p m → CbcOpenAt p (take p.size z) b taken c.open_piece.new.opener × (vec_items c.open_piece.new.out ≡ opened_so_far p (take p.size z) b taken))
          _ _ c.loop-cut.left.now c.args.feed.text.now c.cut_off.ensures.joined
          (λ taken h p e. c.in_ok-open_piece.ensures.opened p (take p.size z) taken b (same_then p m _ e s) (h p e).0 (h p e).1) c.loop-cut.invariant.1,
    )

pub returns : goal.returns
returns g c =
    let m = g.C.BlockCipher.meaning c.args.cipher.now in
    let b = c.args.extent.before in
    let z = c.args.feed.start.now in
    let s = c.loop-cut.invariant.0 in
    let s2 = same_then m _ _ s c.open_piece-2.ensures.same in
    let at =
    fed-all (λ taken. (p : Meaning) → Same p m → CbcOpenAt p (take p.size z) b taken c.loop-cut.opener × (vec_items c.loop-cut.out ≡ opened_so_far p (take p.size z) b taken))
    (λ taken. (p : Meaning) → Same p m → CbcOpenAt p (take p.size z) b taken c.open_piece-2.new.opener × (vec_items c.open_piece-2.new.out ≡ opened_so_far p (take p.size z) b taken))
    c.loop-cut.left.now c.args.feed.text.now
    (λ taken h p e. c.in_ok-open_piece-2.ensures.opened p (take p.size z) taken b (same_then p m _ e s) (h p e).0 (h p e).1) c.loop-cut.invariant.1 in
    record {
      opened = λ p e. c.in_ok-open_end.ensures.opened p (take p.size z) c.args.feed.text.now b (same_then p m _ e s2) (at p e).0 (at p e).1;
      same = same_then m _ _ s2 c.open_end.ensures.same;
    }
