use Rattle.std.proofs.Common.{◌≡◌, ◌+◌, ◌*◌, ◌++◌, take, drop}
use Rattle.std.specs.List.{flat_map}
use Rattle.contents_format.specs.Layout.{header_of}
use Rattle.contents.specs.Entries.{bytes_in, entries_in}
use Rattle.contents.specs.Models.{said_by}
use Rattle.contents.proofs.Contents.write.Given as goal

abbrev pub invariant-loop-i : goal.invariant-loop-i
invariant-loop-i l =
    (take (4 + 56 * l.i) l.out ≡ header_of (said_by l.self).order (said_by l.self).tag ++ flat_map bytes_in (take l.i (entries_in l.self.entries)))
    × (drop (4 + 56 * l.i) l.out ≡ drop (4 + 56 * l.i) l.initial.out)
