use Rattle.std.proofs.Common.{◌≡◌, ℕ, ◌+◌, ◌*◌, ◌<◌, get_or, set}
use Rattle.contents_format.specs.Reading.{contents_read}
use Rattle.contents_tests.specs.Texts.{mark_of}
use Rattle.contents_tests.proofs.trial.changes_as.Given as goal

abbrev pub invariant-loop-at : goal.invariant-loop-at
invariant-loop-at l = (i : ℕ) → i < l.at → (v : ℕ) → v < 256 → mark_of (contents_read (set l.bytes i v)) ≡ get_or l.marks (256 * i + v) 0
