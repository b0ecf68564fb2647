-- Which contents belong to a sheet that passes, and at which place other bytes are refused.
use Rattle.std.specs.Prelude.{◌≡◌, ℕ, ◌+◌, ◌*◌, ◌<◌, ◌≤◌, ◌⊎◌, List, ◌∷◌, length, take, Ok, Err, Result}
use Rattle.std.specs.List.{AllByRecursion}
use Rattle.contents_format.specs.Layout.{contents_of}
use Rattle.contents_format.specs.Reading.{SetOrder, contents_read}
use Rattle.contents_format.specs.declared.ContentsFault.{ContentsFault}
use Rattle.contents_format.specs.declared.ContentsFault.TheVariants.{Header, Entry}
use Rattle.sheet_laws.specs.Grammar.{Iff}
use Rattle.sheet_laws.specs.Passes.{Passes}

abbrev pub IsBlockLength : ℕ → Type 0
IsBlockLength m = (m ≡ 8) ⊎ (m ≡ 16)

-- there is a sheet that passes and orders this, and the bytes are its contents with the block length m of the tag cipher
pub record FromSheet (bytes : List ℕ) (s : SetOrder) : Type 0 where
  pub sheet : List ℕ
  pub passes : Passes sheet s.order
  pub tagged : IsBlockLength s.tag
  pub are : bytes ≡ contents_of s.order s.tag

-- some sheet that passes has these contents
abbrev pub Belongs : List ℕ → Type 0
Belongs bytes = (s : SetOrder) × FromSheet bytes s

-- a good header, and the total length that it asks for
pub record Framed (bytes : List ℕ) : Type 0 where
  pub size : ℕ
  pub count : ℕ
  pub tag : ℕ
  pub entries : List ℕ
  pub parts : bytes ≡ 1 ∷ size ∷ count ∷ tag ∷ entries
  pub sized : IsBlockLength size
  pub tagged : IsBlockLength tag
  pub some : 1 ≤ count
  pub few : count ≤ 32
  pub long : length bytes ≡ 4 + 56 * count

-- the first k entries, counted as k
abbrev pub first_entries : {bytes : List ℕ} → Framed bytes → ℕ → List ℕ
first_entries f k = 1 ∷ f.size ∷ k ∷ f.tag ∷ take (56 * k) f.entries

-- The bytes are refused so: for a bad header or total length, or else at the least k for which the first k entries, counted
-- as k, belong to no sheet that passes.
abbrev pub Refused : List ℕ → ContentsFault → Type 0
Refused bytes Header = Framed bytes → ⊥
Refused bytes (Entry k) =
    (f : Framed bytes) × (1 ≤ k) × (k ≤ f.count) × (Belongs (first_entries f k) → ⊥)
    × ((j : ℕ) → 1 ≤ j → j < k → Belongs (first_entries f j))

-- what an answer r to contents has to be
pub record ReadLaw (bytes : List ℕ) (r : Result SetOrder ContentsFault) : Type 0 where
  -- accepted exactly where a sheet that passes has these contents, with what that sheet orders
  pub accepts : (s : SetOrder) → Iff (r ≡ Ok s) (FromSheet bytes s)
  pub refuses : (f : ContentsFault) → Iff (r ≡ Err f) (Refused bytes f)

-- what contents say keeps the law
abbrev pub ReadingKeepsLaw : Type 0
ReadingKeepsLaw = (bytes : List ℕ) → AllByRecursion (λ x. x < 256) bytes → ReadLaw bytes (contents_read bytes)
