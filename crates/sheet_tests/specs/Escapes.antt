-- What an escaped text means.
use Rattle.std.specs.Prelude.{◌≡◌, ℕ, ◌+◌, ◌*◌, cond, ◌&&◌, List, [], ◌∷◌, Some, None, Option, ◌==◌, nat_lt}
use Rattle.std.specs.Borrow.{Bor}
use Rattle.std.specs.Option.{option_map}
use Rattle.std.specs.Char.{digit_value}

-- the byte of two hexadecimal digits
abbrev pub pair_value : ℕ → ℕ → Option ℕ
pair_value high low =
    cond (nat_lt (digit_value high) 16 && nat_lt (digit_value low) 16) (Some (16 * digit_value high + digit_value low)) None

abbrev pub before : List ℕ → ℕ → ℕ × List ℕ
before rest b = (b, rest)

-- behind `\x`
abbrev pub hex_byte : List ℕ → Option (ℕ × List ℕ)
hex_byte [] = None
hex_byte (high ∷ []) = None
hex_byte (high ∷ low ∷ rest) = option_map (before rest) (pair_value high low)

-- behind a backslash
abbrev pub escaped_byte : List ℕ → Option (ℕ × List ℕ)
escaped_byte [] = None
escaped_byte (x ∷ rest) =
    cond (x == 110) (Some (10, rest))
    (cond (x == 92) (Some (92, rest))
    (cond (x == 120) (hex_byte rest) None))

-- the first byte, and what stands behind it
abbrev pub first_byte : List ℕ → Option (ℕ × List ℕ)
first_byte [] = None
first_byte (x ∷ rest) = cond (x == 92) (escaped_byte rest) (Some (x, rest))

-- a byte and a part of the text
abbrev pub byte_model : Option (ℕ × Bor (List ℕ)) → Option (ℕ × List ℕ)
byte_model None = None
byte_model (Some p) = Some (p.0, p.1.now)

-- the bytes are all that the text means, one behind the other
abbrev pub Means : List ℕ → List ℕ → Type 0
Means text [] = text ≡ []
Means text (b ∷ bytes) = (rest : List ℕ) × (first_byte text ≡ Some (b, rest)) × Means rest bytes
