-- When a fault meets a sheet, and in which order faults are looked at.
use Rattle.std.specs.Prelude.{◌≡◌, ℕ, ◌+◌, ◌<◌, ◌≤◌, true, cond, ◌⊎◌, List, [], ◌∷◌, ◌++◌, map, length, Some, None, Ok, Err, ◌==◌, ◌≢◌}
use Rattle.std.specs.List.{ContainsAt as Has, AllByRecursion}
use Rattle.sheet_format.specs.Faults.{number_of, place_of}
use Rattle.sheet_format.specs.Lines.{Body, blank, comment, cipher, body, Line, lines_of}
use Rattle.sheet_format.specs.Orders.{Order, ciphers_in, bodies_in, ordered, total_blocks, order_of}
use Rattle.sheet_format.specs.Sizes.{block_length, start_digits}
use Rattle.sheet_format.specs.declared.CipherKind.{CipherKind}
use Rattle.sheet_format.specs.declared.Mode.TheVariants.{Ctr}
use Rattle.sheet_format.specs.declared.SheetFault.{SheetFault}
use Rattle.sheet_format.specs.declared.SheetFault.TheVariants.{TooLong, BadByte, NoForm, MisplacedCipher, BodyCount, BadLength, StartDigits, RepeatedName, RepeatedStart, TooManyBlocks, ShortWorkArea}
use Rattle.sheet_laws.specs.Grammar.{Iff}

-- a byte that a sheet may have: 10, or 32 to 126
abbrev pub Allowed : ℕ → Type 0
Allowed x = (x ≡ 10) ⊎ ((32 ≤ x) × (x ≤ 126))

-- how many lines end in a text
abbrev pub endings : List ℕ → ℕ
endings [] = 0
endings (x ∷ xs) = cond (x == 10) (1 + endings xs) (endings xs)

-- P holds of line k of the sheet and the lines before it
abbrev pub AtLine : List ℕ → ℕ → (List Line → Line → Type 0) → Type 0
AtLine sheet k P =
    (earlier : List Line) × (l : Line) × (later : List Line)
    × (lines_of sheet ≡ earlier ++ l ∷ later) × (k ≡ length earlier + 1) × P earlier l

-- k is the number after the last line, and P holds of all lines
abbrev pub AtEnd : List ℕ → ℕ → (List Line → Type 0) → Type 0
AtEnd sheet k P = (k ≡ length (lines_of sheet) + 1) × P (lines_of sheet)

-- blank lines and comments
abbrev pub PassedOver : Line → Type 0
PassedOver l = (l ≡ Some blank) ⊎ (l ≡ Some comment)

abbrev pub IsCipher : Line → CipherKind → Type 0
IsCipher l c = l ≡ Some (cipher c)

abbrev pub IsBody : Line → Body → Type 0
IsBody l b = l ≡ Some (body b)

-- c is the cipher that the first cipher line names
abbrev pub SheetCipher : List Line → CipherKind → Type 0
SheetCipher lines c = (more : List CipherKind) × (ciphers_in lines ≡ c ∷ more)

-- the first line that counts, and no cipher line; or a second cipher line
abbrev pub MisplacedAt : List Line → Line → Type 0
MisplacedAt earlier l =
    (AllByRecursion PassedOver earlier × (PassedOver l → ⊥) × ((c : CipherKind) → IsCipher l c → ⊥))
    ⊎ ((c : CipherKind) × (d : CipherKind) × IsCipher l c × Has earlier (Some (cipher d)))

-- a 33rd body
abbrev pub BodyCountAt : List Line → Line → Type 0
BodyCountAt earlier l = (b : Body) × IsBody l b × (32 ≤ length (bodies_in earlier))

-- L over 1,048,576, or a needless leading zero
abbrev pub BadLengthAt : List Line → Line → Type 0
BadLengthAt earlier l = (b : Body) × IsBody l b × ((1048576 < b.len.value) ⊎ (b.len.padded ≡ true))

-- the wrong number of START digits
abbrev pub StartDigitsAt : List Line → Line → Type 0
StartDigitsAt earlier l =
    (b : Body) × (c : CipherKind) × IsBody l b × SheetCipher earlier c × (length b.start ≢ start_digits b.mode (block_length c))

-- the name of an earlier body
abbrev pub RepeatedNameAt : List Line → Line → Type 0
RepeatedNameAt earlier l = (b : Body) × (e : Body) × IsBody l b × Has earlier (Some (body e)) × (e.name ≡ b.name)

-- the START of an earlier ctr body, in ctr
abbrev pub RepeatedStartAt : List Line → Line → Type 0
RepeatedStartAt earlier l =
    (b : Body) × (e : Body) × IsBody l b × Has earlier (Some (body e)) × (b.mode ≡ Ctr) × (e.mode ≡ Ctr) × (e.start ≡ b.start)

-- blocks so far over 1,000,000
abbrev pub TooManyBlocksAt : List Line → Line → Type 0
TooManyBlocksAt earlier l =
    (b : Body) × (c : CipherKind) × IsBody l b × SheetCipher earlier c
    × (1000000 < total_blocks (block_length c) (map ordered (bodies_in earlier ++ b ∷ [])))

-- the fault meets the sheet, at the place that it names
abbrev pub Meets : List ℕ → SheetFault → Type 0
Meets sheet TooLong = 4096 < length sheet
Meets sheet (BadByte k) =
    (before : List ℕ) × (x : ℕ) × (after : List ℕ)
    × (sheet ≡ before ++ x ∷ after) × AllByRecursion Allowed before × (Allowed x → ⊥) × (k ≡ endings before + 1)
Meets sheet (NoForm k) = AtLine sheet k (λ earlier l. l ≡ None)
Meets sheet (MisplacedCipher k) = AtLine sheet k MisplacedAt ⊎ AtEnd sheet k (λ lines. ciphers_in lines ≡ [])
Meets sheet (BodyCount k) = AtLine sheet k BodyCountAt ⊎ AtEnd sheet k (λ lines. bodies_in lines ≡ [])
Meets sheet (BadLength k) = AtLine sheet k BadLengthAt
Meets sheet (StartDigits k) = AtLine sheet k StartDigitsAt
Meets sheet (RepeatedName k) = AtLine sheet k RepeatedNameAt
Meets sheet (RepeatedStart k) = AtLine sheet k RepeatedStartAt
Meets sheet (TooManyBlocks k) = AtLine sheet k TooManyBlocksAt
Meets sheet ShortWorkArea = ⊥

-- what is looked at first: the length, then the bytes, then the lines
abbrev pub turn : SheetFault → ℕ
turn TooLong = 0
turn (BadByte k) = 1
turn (NoForm k) = 2
turn (MisplacedCipher k) = 2
turn (BodyCount k) = 2
turn (BadLength k) = 2
turn (StartDigits k) = 2
turn (RepeatedName k) = 2
turn (RepeatedStart k) = 2
turn (TooManyBlocks k) = 2
turn ShortWorkArea = 3

-- g is looked at before f: by turn, then by line, then by number; the end of the sheet is the line after the last
abbrev pub Sooner : SheetFault → SheetFault → Type 0
Sooner g f =
    (turn g < turn f)
    ⊎ ((turn g ≡ turn f) × ((place_of g < place_of f) ⊎ ((place_of g ≡ place_of f) × (number_of g < number_of f))))

-- the fault meets the sheet, and no fault that is looked at before it does
abbrev pub FirstMet : List ℕ → SheetFault → Type 0
FirstMet sheet f = Meets sheet f × ((g : SheetFault) → Sooner g f → Meets sheet g → ⊥)

-- none of the faults 1 to 9 meets the sheet
abbrev pub NoneMeets : List ℕ → Type 0
NoneMeets sheet = (f : SheetFault) → Meets sheet f → ⊥

-- a sheet is refused for a fault exactly where it is the first that meets the sheet
abbrev pub RefusedByFirst : Type 0
RefusedByFirst = (sheet : List ℕ) (f : SheetFault) → Iff (order_of sheet ≡ Err f) (FirstMet sheet f)

-- a sheet orders something exactly where no fault meets it
abbrev pub OrdersIfNoneMeets : Type 0
OrdersIfNoneMeets = (sheet : List ℕ) → Iff ((o : Order) × (order_of sheet ≡ Ok o)) (NoneMeets sheet)
