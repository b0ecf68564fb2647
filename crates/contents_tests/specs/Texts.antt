-- What reading contents answers, as the table writes it.
use Rattle.std.specs.Prelude.{ℕ, ◌+◌, ◌%◌, List, ◌++◌, length, Ok, Err, codes, decimal, Result}
use Rattle.sheet_format.specs.Sizes.{block_length}
use Rattle.contents_format.specs.Faults.{place_of}
use Rattle.contents_format.specs.Reading.{SetOrder}
use Rattle.contents_format.specs.declared.ContentsFault.{ContentsFault}

-- two letters, and three numbers with a space before each
abbrev pub three_numbers : List ℕ → ℕ → ℕ → ℕ → List ℕ
three_numbers word a b c = word ++ (decimal a ++ (codes " " ++ (decimal b ++ (codes " " ++ decimal c))))

-- `ok N BODIES M` or `no LAYER NUMBER PLACE`
abbrev pub answer_text : Result SetOrder ContentsFault → List ℕ
answer_text (Ok s) = three_numbers (codes "ok ") (block_length s.order.cipher) (length s.order.bodies) s.tag
answer_text (Err f) = three_numbers (codes "no ") 4 14 (place_of f)

-- `.` where contents are accepted, else the last digit of the place
abbrev pub mark_of : Result SetOrder ContentsFault → ℕ
mark_of (Ok s) = 46
mark_of (Err f) = 48 + place_of f % 10
