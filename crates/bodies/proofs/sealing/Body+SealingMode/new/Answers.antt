use Rattle.bodies.specs.SealingState.{start_of}
use Rattle.bodies.proofs.Bodies.{front-tagged}
use Rattle.bodies.proofs.sealing.Body+SealingMode.new.Goals as goal

pub returns-clause-begun : goal.returns-clause-begun
returns-clause-begun g c = λ m t lm same lt. record {
  sealing = c.new-mode.ensures m lm;
  tagged = front-tagged t c.args.mode m (start_of c.args.mode m.size c.args.start.now) c.args.front.now c.begin_tag-mac.result lm (c.begin_tag-mac.ensures.begun t lt same);
}
