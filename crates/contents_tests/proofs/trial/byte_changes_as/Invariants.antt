use Rattle.std.proofs.Common.{◌≡◌, ℕ, ◌<◌, get_or, set}
use Rattle.contents_format.specs.Reading.{contents_read}
use Rattle.contents_tests.specs.Texts.{mark_of}
use Rattle.contents_tests.proofs.trial.byte_changes_as.Given as goal

abbrev pub invariant-loop-value : goal.invariant-loop-value
invariant-loop-value l = (v : ℕ) → v < l.value → mark_of (contents_read (set l.bytes l.at v)) ≡ get_or l.marks v 0
