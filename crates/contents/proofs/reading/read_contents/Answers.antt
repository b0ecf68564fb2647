use Rattle.std.proofs.Common.{◌≤◌, length, arith, rules}
use Rattle.sheet_format.specs.Orders.{map_ok}
use Rattle.contents.specs.Models.{said_by}
use Rattle.contents.proofs.Whole.{header_read, read-law, written_back}
use Rattle.contents.proofs.reading.read_contents.Goals as goal

pub returns : goal.returns
returns c =
    let xs = c.args.contents.now in
    let long : 4 ≤ length c.args.contents.now = search rules in
    let answer = header_read xs (map_ok said_by c.read_framed.result) long c.read_framed.ensures in
    let law = read-law xs (map_ok said_by c.read_framed.result) (λ i. omega (arith, c.type_inv.contents i)) answer in
    record { answer = answer; law = law; bytes = written_back xs c.read_framed.result law }
