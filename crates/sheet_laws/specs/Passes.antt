-- Which sheets pass, and what they order.
use Rattle.std.specs.Prelude.{◌≡◌, ℕ, ◌≤◌, false, List, [], ◌∷◌, map, length, Ok}
use Rattle.std.specs.List.{flat_map, AllByRecursion}
use Rattle.sheet_format.specs.Lines.{Body, Form, blank, comment, cipher, body}
use Rattle.sheet_format.specs.Orders.{Order, ordered, total_blocks, order_of}
use Rattle.sheet_format.specs.Sizes.{block_length, start_digits}
use Rattle.sheet_format.specs.declared.Mode.TheVariants.{Ctr}
use Rattle.sheet_laws.specs.Grammar.{Iff, Written}
use Rattle.sheet_laws.specs.Meets.{Allowed}

-- the lines that count: all but blank lines and comments
abbrev pub counting : Form → List Form
counting blank = []
counting comment = []
counting (cipher c) = cipher c ∷ []
counting (body b) = body b ∷ []

-- no two of the list are alike
abbrev pub NoTwo : {A : Type 0} → (A → A → Type 0) → List A → Type 0
NoTwo Alike [] = Unit {0}
NoTwo Alike (x ∷ xs) = AllByRecursion (λ y. Alike x y → ⊥) xs × NoTwo Alike xs

abbrev pub SameName : Body → Body → Type 0
SameName a b = a.name ≡ b.name

abbrev pub SameCtrStart : Body → Body → Type 0
SameCtrStart a b = (a.mode ≡ Ctr) × (b.mode ≡ Ctr) × (a.start ≡ b.start)

-- the sheet passes, and orders this
pub record Passes (sheet : List ℕ) (o : Order) : Type 0 where
  pub short : length sheet ≤ 4096
  pub bytes : AllByRecursion Allowed sheet
  -- a row of ended lines
  pub forms : List Form
  pub lines : Written sheet forms
  -- one cipher line, first among those that count, and body lines after it
  pub named : List Body
  pub counted : flat_map counting forms ≡ cipher o.cipher ∷ map body named
  pub bodies : o.bodies ≡ map ordered named
  pub some : 1 ≤ length named
  pub few : length named ≤ 32
  pub lengths : AllByRecursion (λ b. (b.len.value ≤ 1048576) × (b.len.padded ≡ false)) named
  pub digits : AllByRecursion (λ b. length b.start ≡ start_digits b.mode (block_length o.cipher)) named
  pub names : NoTwo SameName named
  pub starts : NoTwo SameCtrStart named
  pub blocks : total_blocks (block_length o.cipher) o.bodies ≤ 1000000

-- a sheet orders something exactly where it passes so
abbrev pub OrdersIfPasses : Type 0
OrdersIfPasses = (sheet : List ℕ) (o : Order) → Iff (order_of sheet ≡ Ok o) (Passes sheet o)
