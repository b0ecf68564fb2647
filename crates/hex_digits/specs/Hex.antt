-- What hexadecimal digits mean.
use Rattle.std.specs.Prelude.{ℕ, ◌+◌, ◌-◌, ◌*◌, Bool, cond, ◌&&◌, List, [], ◌∷◌, length, is_some, Ok, Err, Some, None, Option, nat_le, ◌==◌, Result, option_and_then, unwrap_or}
use Rattle.std.specs.List.{list_all}
use Rattle.std.specs.Option.{option_map}
use Rattle.hex_digits.specs.declared.NotHex.{NotHex}

-- the value of a digit 0-9 a-f
abbrev pub hex_value : ℕ → Option ℕ
hex_value x =
    cond (nat_le 48 x && nat_le x 57) (Some (x - 48))
    (cond (nat_le 97 x && nat_le x 102) (Some (x - 97 + 10)) None)

abbrev pub is_hex_digit : ℕ → Bool
is_hex_digit x = is_some (hex_value x)

abbrev pub all_hex_digits : List ℕ → Bool
all_hex_digits = list_all is_hex_digit

-- the byte of two digits, the high half first
abbrev pub hex_pair : ℕ → ℕ → Option ℕ
hex_pair x y = option_and_then (λ a. option_map (λ b. 16 * a + b) (hex_value y)) (hex_value x)

-- the bytes that pairs of digits mean, the high half first
abbrev pub hex_bytes : List ℕ → List ℕ
hex_bytes [] = []
hex_bytes (x ∷ []) = []
hex_bytes (x ∷ y ∷ zs) = (16 * unwrap_or (hex_value x) 0 + unwrap_or (hex_value y) 0) ∷ hex_bytes zs

-- two digits for each of n bytes
abbrev pub is_hex : ℕ → List ℕ → Bool
is_hex n text = length text == 2 * n && all_hex_digits text

abbrev pub read_answer : ℕ → List ℕ → Result (Unit {0}) NotHex
read_answer n text = cond (is_hex n text) (Ok tt) (Err (record {}))

abbrev pub read_out : List ℕ → List ℕ → List ℕ
read_out out text = cond (is_hex (length out) text) (hex_bytes text) out
