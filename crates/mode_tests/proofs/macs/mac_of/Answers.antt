use Rattle.block.specs.Blocks.{Meaning, Same}
use Rattle.modes.proofs.Streams.{same_then}
use Rattle.modes.specs.MacState.{MacAt}
use Rattle.mode_tests.proofs.Feeding.{fed-none, fed-piece, fed-all, same_self, lawful-same}
use Rattle.mode_tests.proofs.macs.mac_of.Goals as goal

pub loop-cut-init : goal.loop-cut-init
loop-cut-init g c =
    let m = g.C.BlockCipher.meaning c.args.cipher.now in
    let l = g.met.C.BlockCipher.lawful c.args.cipher.now in (
      same_self m,
      fed-none (λ taken. (o : Meaning) → Same o m → MacAt o taken c.new-state.result) c.args.text.now (λ o e. c.new-state.ensures o (lawful-same o m e l)),
    )

pub loop-cut-preserved : goal.loop-cut-preserved
loop-cut-preserved g c =
    let m = g.C.BlockCipher.meaning c.args.cipher.now in
    let s = c.loop-cut.invariant.0 in (
      same_then m _ _ s c.absorb.ensures.same,
      fed-piece (λ taken. (o : Meaning) → Same o m → MacAt o taken c.loop-cut.state) (λ taken. (o : Meaning) → Same o m → MacAt o taken c.absorb.new.self)
          _ _ c.loop-cut.rest.now c.args.text.now
          c.cut_off.ensures.joined (λ taken h o e. c.absorb.ensures.absorbed o taken (same_then o m _ e s) (h o e)) c.loop-cut.invariant.1,
    )

pub returns : goal.returns
returns g c =
    let m = g.C.BlockCipher.meaning c.args.cipher.now in
    let s = c.loop-cut.invariant.0 in
    let s2 = same_then m _ _ s c.absorb-2.ensures.same in
    let h : (o : Meaning) → Same o m → MacAt o c.args.text.now c.absorb-2.new.self =
    fed-all (λ taken. (o : Meaning) → Same o m → MacAt o taken c.loop-cut.state) (λ taken. (o : Meaning) → Same o m → MacAt o taken c.absorb-2.new.self)
    c.loop-cut.rest.now c.args.text.now
    (λ taken h o e. c.absorb-2.ensures.absorbed o taken (same_then o m _ e s) (h o e)) c.loop-cut.invariant.1 in
    record {
      value = λ o e. c.finish.ensures.mac o c.args.text.now (same_then o m _ e s2) (h o e);
      same = same_then m _ _ s2 c.finish.ensures.same;
    }
