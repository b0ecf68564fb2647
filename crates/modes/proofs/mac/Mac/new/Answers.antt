use Rattle.modes.proofs.Macs.{begun-mac}
use Rattle.modes.proofs.mac.Mac.new.Goals as goal

pub returns : goal.returns
returns c = begun-mac
