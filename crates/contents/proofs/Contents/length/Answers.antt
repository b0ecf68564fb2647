use Rattle.std.proofs.Common.{arith}
use Rattle.contents.proofs.OfContents.{length_whole, good}
use Rattle.contents.proofs.Contents.length.Goals as goal

pub returns-clause-value : goal.returns-clause-value
returns-clause-value c = let w = length_whole c.args.self.now in let m = (good c.args.self.now).many in omega arith
