use Rattle.std.proofs.Common.{◌≡◌, ℕ, ◌-◌, take, subst, arith}
use Rattle.modes.specs.MacState.{AbsorbedMac}
use Rattle.bodies.proofs.Bodies.{sealing-fed}
use Rattle.bodies.proofs.sealing.Body+SealingMode.feed.Goals as goal

pub returns-clause-after : goal.returns-clause-after
returns-clause-after g c =
    let cipher = g.C.BlockCipher.meaning c.args.cipher.now in
    let tag = g.T.BlockCipher.meaning c.args.tag.now in
    let s = c.args.self.now in
    let k = c.in_ok-written.written in
    let e = c.in_ok-written.ensures in
    let z : k - 0 ≡ k = omega arith in
    let took : AbsorbedMac tag s.mac (take k c.feed.new.out) c.absorb.new.self =
    subst (λ (x : ℕ). AbsorbedMac tag s.mac (take x c.feed.new.out) c.absorb.new.self) z c.absorb.ensures.absorbed in (
      λ m t mode start front text sm st hold.
          let went = e.after.0 m mode start text sm hold.sealing in
          (sealing-fed m t cipher tag mode start front text c.args.piece.now (take k c.feed.new.out) s c.feed.new.self c.absorb.new.self sm st hold went took, went.1),
      e.after.1,
    )
