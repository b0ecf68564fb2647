use Rattle.std.proofs.Common.{◌≡◌, ◌+◌, ◌*◌, ◌++◌, length, take}
use Rattle.hex_digits.specs.Hex.{all_hex_digits, hex_bytes}
use Rattle.block.proofs.key_bytes.Given as goal

-- what is left of the text gives the rest of the key
abbrev pub invariant-loop-b : goal.invariant-loop-b
invariant-loop-b l = record {
  bytes : take l.b-index l.b-items ++ hex_bytes l.rest ≡ hex_bytes l.text;
  digits : all_hex_digits l.rest ≡ all_hex_digits l.text;
  left : length l.rest + 2 * l.b-index ≡ 64;
  long : length l.b-items ≡ 32;
}
