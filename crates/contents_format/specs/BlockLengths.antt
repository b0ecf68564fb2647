-- Block lengths as numbers of bytes.
use Rattle.std.specs.Prelude.{ℕ, cond, Some, None, Option, ◌==◌, nat_lt}
use Rattle.contents_format.specs.declared.BlockLength.{BlockLength}
use Rattle.contents_format.specs.declared.BlockLength.TheVariants.{Eight, Sixteen}

abbrev pub bytes_of : BlockLength → ℕ
bytes_of Eight = 8
bytes_of Sixteen = 16

abbrev pub with_bytes : ℕ → Option BlockLength
with_bytes m = cond (m == 8) (Some Eight) (cond (m == 16) (Some Sixteen) None)

-- 8 and 16 themselves; any other number is given to one of them
abbrev pub nearest_to : ℕ → BlockLength
nearest_to m = cond (nat_lt m 16) Eight Sixteen
