use Rattle.std.proofs.Common.{◌≡◌, ◌+◌, ◌*◌, ◌++◌, length, take}
use Rattle.hex_digits.specs.Hex.{hex_bytes}
use Rattle.hex_digits.proofs.read_hex.Given as goal

-- what is left of the text gives the rest of the bytes
abbrev pub invariant-loop-b : goal.invariant-loop-b
invariant-loop-b l = record {
  bytes : take l.b-index l.out ++ hex_bytes l.rest ≡ hex_bytes l.fn.text;
  left : length l.rest + 2 * l.b-index ≡ length l.fn.text;
  long : length l.out ≡ length l.fn.out;
}
