-- What a set is: contents, then for each body its sealed bytes and its tag.
use Rattle.std.specs.Prelude.{ℕ, ◌+◌, ◌/◌, ◌≤◌, List, [], ◌∷◌, ◌++◌, length}
use Rattle.block.specs.Blocks.{Meaning}
use Rattle.modes_spec.specs.Ctr.{ctr}
use Rattle.modes_spec.specs.Cbc.{cbc_blocks, cbc_sealed}
use Rattle.modes_spec.specs.Mac.{mac}
use Rattle.sheet_format.specs.Orders.{BodyOrder, Order}
use Rattle.sheet_format.specs.declared.Mode.{Mode}
use Rattle.sheet_format.specs.declared.Mode.TheVariants.{Ctr, Cbc}
use Rattle.contents_format.specs.Layout.{header_of, entry_of, contents_of}

-- a text sealed in a mode, under the cipher that means c
abbrev pub sealed_in : Mode → Meaning → List ℕ → List ℕ → List ℕ
sealed_in Ctr c start text = ctr c start text
sealed_in Cbc c start text = cbc_sealed c start text

-- a text as far as it is sealed before its end is known: in cbc the blocks that are whole
abbrev pub sealed_front : Mode → Meaning → List ℕ → List ℕ → List ℕ
sealed_front Ctr c start text = ctr c start text
sealed_front Cbc c start text = cbc_blocks c start text (length text / c.size)

-- the sealed bytes of a body, and what is sealed of it so far
abbrev pub sealed_body : Meaning → BodyOrder → List ℕ → List ℕ
sealed_body c b text = sealed_in b.mode c b.start text

abbrev pub sealed_so_far : Meaning → BodyOrder → List ℕ → List ℕ
sealed_so_far c b text = sealed_front b.mode c b.start text

-- START and name have room in an entry
abbrev pub FitsEntry : BodyOrder → Type 0
FitsEntry b = (length b.start ≤ 16) × (length b.name ≤ 32)

-- what a tag covers: the header, one byte with the body's number from 0, its entry, its sealed bytes
abbrev pub tag_text : Order → ℕ → ℕ → BodyOrder → List ℕ → List ℕ
tag_text o m k b bytes = header_of o m ++ (k ∷ (entry_of b ++ bytes))

-- the tag, under the tag cipher that means t
abbrev pub tag_of : Meaning → Order → ℕ → BodyOrder → List ℕ → List ℕ
tag_of t o k b bytes = mac t (tag_text o t.size k b bytes)

-- body k, closed: its sealed bytes and its tag
abbrev pub closed_body : Meaning → Meaning → Order → ℕ → BodyOrder → List ℕ → List ℕ
closed_body c t o k b text = sealed_body c b text ++ tag_of t o k b (sealed_body c b text)

-- closed bodies from number k on, with their texts
abbrev pub closed_bodies : Meaning → Meaning → Order → ℕ → List BodyOrder → List (List ℕ) → List ℕ
closed_bodies c t o k [] texts = []
closed_bodies c t o k (b ∷ bs) [] = []
closed_bodies c t o k (b ∷ bs) (text ∷ texts) = closed_body c t o k b text ++ closed_bodies c t o (k + 1) bs texts

-- the set of an order and the texts of its bodies
abbrev pub set_of : Meaning → Meaning → Order → List (List ℕ) → List ℕ
set_of c t o texts = contents_of o t.size ++ closed_bodies c t o 0 o.bodies texts
