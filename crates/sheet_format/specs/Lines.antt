-- The lines of an order sheet, and what each of them says.
use Rattle.std.specs.Prelude.{ℕ, Bool, false, cond, ◌&&◌, List, [], ◌∷◌, map, length, Some, None, codes, Option, ◌==◌, nat_le}
use Rattle.std.specs.List.{list_all}
use Rattle.std.specs.Option.{option_map}
use Rattle.std.specs.Str.{bytes_eq}
use Rattle.hex_digits.specs.Hex.{all_hex_digits}
use Rattle.sheet_format.specs.Digits.{decimal_of}
use Rattle.sheet_format.specs.declared.CipherKind.{CipherKind}
use Rattle.sheet_format.specs.declared.CipherKind.TheVariants.{Kuznyechik, Magma}
use Rattle.sheet_format.specs.declared.Decimal.{Decimal}
use Rattle.sheet_format.specs.declared.Mode.{Mode}
use Rattle.sheet_format.specs.declared.Mode.TheVariants.{Ctr, Cbc}

-- a line of text: what stands before its byte 10, or before the end of the sheet
pub data Row : Type 0 where
  ended : List ℕ → Row
  unended : List ℕ → Row

-- one more byte in front of the first line
abbrev pub on_first : ℕ → List Row → List Row
on_first x [] = unended (x ∷ []) ∷ []
on_first x (ended text ∷ rows) = ended (x ∷ text) ∷ rows
on_first x (unended text ∷ rows) = unended (x ∷ text) ∷ rows

-- the lines of a sheet; nothing after the last byte 10 is no line
abbrev pub rows_of : List ℕ → List Row
rows_of [] = []
rows_of (x ∷ xs) = cond (x == 10) (ended [] ∷ rows_of xs) (on_first x (rows_of xs))

-- a body line: MODE, the digits of START, LENGTH, NAME
pub record Body : Type 0 where
  pub mode : Mode
  pub start : List ℕ
  pub len : Decimal
  pub name : List ℕ

-- the forms that a line can have
pub data Form : Type 0 where
  blank : Form
  comment : Form
  cipher : CipherKind → Form
  body : Body → Form

abbrev pub bind : {A B : Type 0} → Option A → (A → Option B) → Option B
bind None f = None
bind (Some x) f = f x

-- x, if the test holds
abbrev pub given : {A : Type 0} → Bool → Option A → Option A
given t x = cond t x None

abbrev pub grown : ℕ → Option (List ℕ × List ℕ) → Option (List ℕ × List ℕ)
grown x None = None
grown x (Some p) = Some (x ∷ p.0, p.1)

-- what stands before the first `at`, and what stands after it
abbrev pub cut_of : ℕ → List ℕ → Option (List ℕ × List ℕ)
cut_of at [] = None
cut_of at (x ∷ xs) = cond (x == at) (Some ([], xs)) (grown x (cut_of at xs))

abbrev pub mode_of : List ℕ → Option Mode
mode_of xs = cond (bytes_eq xs (codes "ctr")) (Some Ctr) (cond (bytes_eq xs (codes "cbc")) (Some Cbc) None)

abbrev pub is_start : List ℕ → Bool
is_start [] = false
is_start (x ∷ xs) = all_hex_digits (x ∷ xs)

-- a byte that shows and is no space
abbrev pub is_graphic : ℕ → Bool
is_graphic x = nat_le 33 x && nat_le x 126

abbrev pub all_graphic : List ℕ → Bool
all_graphic = list_all is_graphic

abbrev pub is_name : List ℕ → Bool
is_name [] = false
is_name (x ∷ xs) = nat_le (length (x ∷ xs)) 32 && all_graphic (x ∷ xs)

abbrev pub body_from : Mode → List ℕ → Decimal → List ℕ → Body
body_from m st n nm = record { mode = m; start = st; len = n; name = nm }

-- what follows a body line's letter and space: MODE START LENGTH NAME, single spaces between
abbrev pub fields_of : List ℕ → Option Body
fields_of xs =
    bind (cut_of 32 xs) (λ p. bind (mode_of p.0) (λ m.
    bind (cut_of 32 p.1) (λ q. given (is_start q.0) (
    bind (cut_of 32 q.1) (λ t. bind (decimal_of t.0) (λ n.
    given (is_name t.1) (Some (body_from m q.0 n t.1))))))))

-- what follows a body line's letter
abbrev pub body_of : List ℕ → Option Body
body_of [] = None
body_of (x ∷ xs) = given (x == 32) (fields_of xs)

-- what follows a cipher line's letter
abbrev pub cipher_of : List ℕ → Option CipherKind
cipher_of xs = cond (bytes_eq xs (codes " kuz")) (Some Kuznyechik) (cond (bytes_eq xs (codes " magma")) (Some Magma) None)

-- the first letter tells the kind: `#` comment, `c` cipher, `b` body
abbrev pub form_of : List ℕ → Option Form
form_of [] = Some blank
form_of (x ∷ xs) =
    cond (x == 35) (Some comment)
    (cond (x == 99) (option_map cipher (cipher_of xs))
    (cond (x == 98) (option_map body (body_of xs)) None))

-- what a line says, if it has a form; one that no byte 10 ends has none
abbrev pub Line : Type 0
Line = Option Form

abbrev pub line_of : Row → Line
line_of (ended text) = form_of text
line_of (unended text) = None

abbrev pub lines_of : List ℕ → List Line
lines_of xs = map line_of (rows_of xs)
