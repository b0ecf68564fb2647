use Rattle.std.proofs.Common.{◌-◌, length, ap, ◌∙◌, arith}
use Rattle.std.specs.Int.{bytes_high_first}
use Rattle.std.specs.List.{between}
use Rattle.std.proofs.lemmas.Slice.{between_to_end}
use Rattle.modes_spec.proofs.Numbers.{last-bytes}
use Rattle.modes.proofs.bytes.write_number.Goals as goal

pub returns : goal.returns
returns c =
    let from = 8 - length c.args.part.now in
    c.copy_from_slice.ensures.after ∙ ap (between from 8) c.to_be_bytes-bytes.ensures
    ∙ between_to_end (bytes_high_first 8 c.args.number) from 8 (omega arith) ∙ last-bytes (length c.args.part.now) c.args.number c.requires
