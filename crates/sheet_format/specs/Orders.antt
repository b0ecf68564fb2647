-- What a sheet orders, or the one fault for which it is refused.
use Rattle.std.specs.Prelude.{ℕ, ◌+◌, Bool, true, false, cond, not, ◌&&◌, ◌||◌, leb, List, [], ◌∷◌, ◌++◌, map, length, is_some, Some, None, Ok, Err, Option, Result, ◌==◌, nat_le, nat_lt}
use Rattle.std.specs.List.{flat_map, list_all, list_any}
use Rattle.std.specs.Str.{bytes_eq}
use Rattle.hex_digits.specs.Hex.{hex_bytes}
use Rattle.sheet_format.specs.Lines.{Body, blank, comment, cipher, body, Line, lines_of}
use Rattle.sheet_format.specs.Sizes.{block_length, start_digits, blocks_of}
use Rattle.sheet_format.specs.declared.Checked.{Checked}
use Rattle.sheet_format.specs.declared.CipherKind.{CipherKind}
use Rattle.sheet_format.specs.declared.Mode.{Mode}
use Rattle.sheet_format.specs.declared.Mode.TheVariants.{Ctr, Cbc}
use Rattle.sheet_format.specs.declared.SheetFault.{SheetFault}
use Rattle.sheet_format.specs.declared.SheetFault.TheVariants.{TooLong, BadByte, NoForm, MisplacedCipher, BodyCount, BadLength, StartDigits, RepeatedName, RepeatedStart, TooManyBlocks, ShortWorkArea}

-- a body as it is ordered: START as bytes, the length in bytes
pub record BodyOrder : Type 0 where
  pub mode : Mode
  pub start : List ℕ
  pub len : ℕ
  pub name : List ℕ

-- what a sheet that passes orders
pub record Order : Type 0 where
  pub cipher : CipherKind
  pub bodies : List BodyOrder

abbrev pub ordered : Body → BodyOrder
ordered b = record { mode = b.mode; start = hex_bytes b.start; len = b.len.value; name = b.name }

-- the blocks of all bodies, for the block length n
abbrev pub total_blocks : ℕ → List BodyOrder → ℕ
total_blocks n [] = 0
total_blocks n (b ∷ bs) = blocks_of b.mode n b.len + total_blocks n bs

-- the ciphers and the bodies that lines name
abbrev pub cipher_named : Line → List CipherKind
cipher_named None = []
cipher_named (Some blank) = []
cipher_named (Some comment) = []
cipher_named (Some (cipher c)) = c ∷ []
cipher_named (Some (body b)) = []

abbrev pub ciphers_in : List Line → List CipherKind
ciphers_in lines = flat_map cipher_named lines

abbrev pub body_named : Line → List Body
body_named None = []
body_named (Some blank) = []
body_named (Some comment) = []
body_named (Some (cipher c)) = []
body_named (Some (body b)) = b ∷ []

abbrev pub bodies_in : List Line → List Body
bodies_in lines = flat_map body_named lines

-- blank lines and comments are passed over, every other line counts
abbrev pub counts : Line → Bool
counts None = true
counts (Some blank) = false
counts (Some comment) = false
counts (Some (cipher c)) = true
counts (Some (body b)) = true

abbrev pub none_counts : List Line → Bool
none_counts = list_all (λ l. not (counts l))

abbrev pub is_empty : {A : Type 0} → List A → Bool
is_empty [] = true
is_empty (x ∷ xs) = false

-- a test of the body that a line names, and of the first cipher of several
abbrev pub of_body : Line → (Body → Bool) → Bool
of_body None test = false
of_body (Some blank) test = false
of_body (Some comment) test = false
of_body (Some (cipher c)) test = false
of_body (Some (body b)) test = test b

abbrev pub of_first : List CipherKind → (CipherKind → Bool) → Bool
of_first [] test = false
of_first (c ∷ cs) test = test c

-- The eight conditions under which a line is refused. `earlier` are the lines before it.

-- it has no form
abbrev pub no_form : Line → Bool
no_form l = not (is_some l)

-- the first line that counts is no cipher line, or a cipher line stands before this one
abbrev pub misplaced_cipher : List Line → Line → Bool
misplaced_cipher earlier None = none_counts earlier
misplaced_cipher earlier (Some blank) = false
misplaced_cipher earlier (Some comment) = false
misplaced_cipher earlier (Some (cipher c)) = not (is_empty (ciphers_in earlier))
misplaced_cipher earlier (Some (body b)) = none_counts earlier

-- 32 bodies stand before this one
abbrev pub too_many_bodies : List Line → Line → Bool
too_many_bodies earlier l = of_body l (λ b. leb 32 (length (bodies_in earlier)))

-- over 1,048,576 bytes, or a needless zero in front
abbrev pub bad_length : Line → Bool
bad_length l = of_body l (λ b. nat_lt 1048576 b.len.value || b.len.padded)

-- START has not as many digits as cipher and mode want
abbrev pub wrong_start_digits : List Line → Line → Bool
wrong_start_digits earlier l =
    of_body l (λ b. of_first (ciphers_in earlier) (λ c. not (length b.start == start_digits b.mode (block_length c))))

abbrev pub has_name : List ℕ → List Body → Bool
has_name name = list_any (λ b. bytes_eq b.name name)

-- an earlier body has its name
abbrev pub name_taken : List Line → Line → Bool
name_taken earlier l = of_body l (λ b. has_name b.name (bodies_in earlier))

abbrev pub is_ctr : Mode → Bool
is_ctr Ctr = true
is_ctr Cbc = false

abbrev pub has_ctr_start : List ℕ → List Body → Bool
has_ctr_start start = list_any (λ b. is_ctr b.mode && bytes_eq b.start start)

-- it is in ctr, and an earlier ctr body has its START
abbrev pub start_taken : List Line → Line → Bool
start_taken earlier l = of_body l (λ b. is_ctr b.mode && has_ctr_start b.start (bodies_in earlier))

-- with it the bodies have over 1,000,000 blocks
abbrev pub too_many_blocks : List Line → Line → Bool
too_many_blocks earlier l =
    of_body l (λ b. of_first (ciphers_in earlier) (λ c.
    nat_lt 1000000 (total_blocks (block_length c) (map ordered (bodies_in earlier ++ b ∷ [])))))

-- the first of them that a line meets, in the order of their numbers; k is the line's number
abbrev pub line_fault : ℕ → List Line → Line → Option SheetFault
line_fault k earlier l =
    cond (no_form l) (Some (NoForm k))
    (cond (misplaced_cipher earlier l) (Some (MisplacedCipher k))
    (cond (too_many_bodies earlier l) (Some (BodyCount k))
    (cond (bad_length l) (Some (BadLength k))
    (cond (wrong_start_digits earlier l) (Some (StartDigits k))
    (cond (name_taken earlier l) (Some (RepeatedName k))
    (cond (start_taken earlier l) (Some (RepeatedStart k))
    (cond (too_many_blocks earlier l) (Some (TooManyBlocks k)) None)))))))

-- refused by a fault, if there is one
abbrev pub unless : {A : Type 0} → Option SheetFault → Result A SheetFault → Result A SheetFault
unless None r = r
unless (Some f) r = Err f

-- at the end of a sheet: no cipher line, no body, or the order; k is the number of the last line + 1
abbrev pub order_at_end : ℕ → List CipherKind → List Body → Result Order SheetFault
order_at_end k [] bs = Err (MisplacedCipher k)
order_at_end k (c ∷ cs) [] = Err (BodyCount k)
order_at_end k (c ∷ cs) (b ∷ bs) = Ok (record { cipher = c; bodies = map ordered (b ∷ bs) })

-- line by line from the top
abbrev pub order_from : List Line → List Line → Result Order SheetFault
order_from earlier [] = order_at_end (length earlier + 1) (ciphers_in earlier) (bodies_in earlier)
order_from earlier (l ∷ ls) = unless (line_fault (length earlier + 1) earlier l) (order_from (earlier ++ l ∷ []) ls)

-- a byte that a sheet may have
abbrev pub is_allowed : ℕ → Bool
is_allowed x = x == 10 || (nat_le 32 x && nat_le x 126)

-- the number of the line of the first byte that is not allowed, if the first byte is in line k
abbrev pub bad_line : ℕ → List ℕ → Option ℕ
bad_line k [] = None
bad_line k (x ∷ xs) = cond (is_allowed x) (bad_line (cond (x == 10) (k + 1) k) xs) (Some k)

abbrev pub byte_fault : Option ℕ → Option SheetFault
byte_fault None = None
byte_fault (Some k) = Some (BadByte k)

abbrev pub length_fault : List ℕ → Option SheetFault
length_fault sheet = cond (nat_lt 4096 (length sheet)) (Some TooLong) None

-- what a sheet orders, or its fault: first its length, then its bytes, then its lines and its end
abbrev pub order_of : List ℕ → Result Order SheetFault
order_of sheet = unless (length_fault sheet) (unless (byte_fault (bad_line 1 sheet)) (order_from [] (lines_of sheet)))

abbrev pub summary : Order → Checked
summary o =
    record { block_length = block_length o.cipher; bodies = length o.bodies; blocks = total_blocks (block_length o.cipher) o.bodies }

abbrev pub map_ok : {A B E : Type 0} → (A → B) → Result A E → Result B E
map_ok f (Ok x) = Ok (f x)
map_ok f (Err e) = Err e

-- what `check` answers with a work area of that many bytes
abbrev pub checked_of : ℕ → List ℕ → Result Checked SheetFault
checked_of work sheet = cond (nat_lt work 1792) (Err ShortWorkArea) (map_ok summary (order_of sheet))
