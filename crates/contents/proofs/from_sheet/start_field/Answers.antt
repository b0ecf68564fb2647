use Rattle.std.proofs.Common.{rules}
use Rattle.contents.proofs.Filled.{start-filled}
use Rattle.contents.proofs.from_sheet.start_field.Goals as goal

pub returns : goal.returns
returns c = start-filled c.read_hex.new.out c.args.digits.now _ (search rules) c.requires.hex c.read_hex.ensures.out
