-- What decimal digits mean.
use Rattle.std.specs.Prelude.{ℕ, ◌+◌, ◌-◌, ◌*◌, Bool, false, cond, ◌&&◌, List, [], ◌∷◌, length, Some, None, Option, ◌==◌, nat_le}
use Rattle.std.specs.Option.{option_map}
use Rattle.sheet_format.specs.declared.Decimal.{Decimal}

abbrev pub is_decimal_digit : ℕ → Bool
is_decimal_digit x = nat_le 48 x && nat_le x 57

-- the number that digits mean, read on behind those that gave n
abbrev pub decimal_from : ℕ → List ℕ → Option ℕ
decimal_from n [] = Some n
decimal_from n (x ∷ xs) = cond (is_decimal_digit x) (decimal_from (n * 10 + (x - 48)) xs) None

-- more than one digit, and the first is 0
abbrev pub needless_zero : List ℕ → Bool
needless_zero [] = false
needless_zero (x ∷ []) = false
needless_zero (x ∷ y ∷ zs) = x == 48

abbrev pub written : List ℕ → ℕ → Decimal
written xs n = record { value = n; padded = needless_zero xs }

-- one to seven decimal digits
abbrev pub decimal_of : List ℕ → Option Decimal
decimal_of [] = None
decimal_of (x ∷ xs) = cond (nat_le (length (x ∷ xs)) 7) (option_map (written (x ∷ xs)) (decimal_from 0 (x ∷ xs))) None
