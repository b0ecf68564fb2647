-- The text that `list` prints of a sheet. A line is fields with a space between them, and byte 10 at its end.
use Rattle.std.specs.Prelude.{ℕ, ◌+◌, List, [], ◌∷◌, ◌++◌, length, Ok, Err, codes, decimal, Result}
use Rattle.sheet_format.specs.Faults.{code_of}
use Rattle.sheet_format.specs.Orders.{BodyOrder, Order, total_blocks, order_of}
use Rattle.sheet_format.specs.Sizes.{block_length, blocks_of, sealed_length}
use Rattle.sheet_format.specs.declared.CipherKind.{CipherKind}
use Rattle.sheet_format.specs.declared.SheetFault.{SheetFault}
use Rattle.sheet_laws.specs.Grammar.{cipher_word, mode_word}

-- a line of fields
abbrev pub line_text : List (List ℕ) → List ℕ
line_text [] = 10 ∷ []
line_text (field ∷ []) = field ++ 10 ∷ []
line_text (field ∷ next ∷ more) = field ++ 32 ∷ line_text (next ∷ more)

-- `c CIPHER n`
abbrev pub cipher_text : CipherKind → List ℕ
cipher_text c = line_text (codes "c" ∷ cipher_word c ∷ decimal (block_length c) ∷ [])

-- `b NUMBER MODE LENGTH BLOCKS SEALED NAME`: n is the block length, k the body's number
abbrev pub body_text : ℕ → ℕ → BodyOrder → List ℕ
body_text n k b =
    line_text
    (codes "b" ∷ decimal k ∷ mode_word b.mode ∷ decimal b.len
    ∷ decimal (blocks_of b.mode n b.len) ∷ decimal (sealed_length b.mode n b.len) ∷ b.name ∷ [])

-- a line for each body, with numbers from k on
abbrev pub bodies_text : ℕ → ℕ → List BodyOrder → List ℕ
bodies_text n k [] = []
bodies_text n k (b ∷ bs) = body_text n k b ++ bodies_text n (k + 1) bs

-- `total BODIES BLOCKS`
abbrev pub total_text : ℕ → ℕ → List ℕ
total_text bodies blocks = line_text (codes "total" ∷ decimal bodies ∷ decimal blocks ∷ [])

abbrev pub order_text : Order → List ℕ
order_text o =
    cipher_text o.cipher
    ++ (bodies_text (block_length o.cipher) 1 o.bodies
    ++ total_text (length o.bodies) (total_blocks (block_length o.cipher) o.bodies))

-- `no LAYER NUMBER PLACE`
abbrev pub refusal_text : SheetFault → List ℕ
refusal_text f = line_text (codes "no" ∷ decimal (code_of f).layer ∷ decimal (code_of f).number ∷ decimal (code_of f).place ∷ [])

abbrev pub answer_text : Result Order SheetFault → List ℕ
answer_text (Ok o) = order_text o
answer_text (Err f) = refusal_text f

abbrev pub listing_of : List ℕ → List ℕ
listing_of sheet = answer_text (order_of sheet)
