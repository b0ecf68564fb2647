use Rattle.bodies.proofs.Openings.{opening-taken}
use Rattle.bodies.proofs.opening.Body+OpeningMode.take.Goals as goal

pub returns-clause-after : goal.returns-clause-after
returns-clause-after g c =
    let tag = g.T.BlockCipher.meaning c.args.tag.now in
    let e = c.in_ok-written.ensures in (
      λ m t mode start before front sealed sm st hold.
          let went = e.after.0 m mode start before sealed sm hold.opening in
          (opening-taken m t tag mode start before front sealed c.args.piece.now c.args.self.now c.take.new.self c.absorb.new.self st hold went.0 c.absorb.ensures.absorbed, went.1),
      e.after.1,
    )
