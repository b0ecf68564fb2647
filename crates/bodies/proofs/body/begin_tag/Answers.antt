use Rattle.std.proofs.Common.{[]}
use Rattle.bodies.proofs.body.begin_tag.Goals as goal

pub returns-clause-begun : goal.returns-clause-begun
returns-clause-begun g c = λ t lawful same. c.absorb.ensures.absorbed t [] same (c.new-mac.ensures t lawful)
