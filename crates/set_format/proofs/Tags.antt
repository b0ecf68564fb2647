-- The length of a tag's text, and which subkey it takes.
use Rattle.std.proofs.Common.{◌≡◌, ℕ, ◌+◌, ◌-◌, ◌*◌, ◌/◌, ◌≤◌, Bool, cond, eqb, List, length, replicate, ap, ◌∙◌, arith}
use Rattle.std.proofs.lemmas.List.{length-append, length-replicate, length-drop}
use Rattle.block.specs.Blocks.{Meaning}
use Rattle.modes_spec.specs.Mac.{blocks_before, ends_whole, last_subkey, subkey1, subkey2}
use Rattle.sheet_format.specs.Orders.{BodyOrder, Order}
use Rattle.contents_format.specs.Layout.{entry_of, filled}
use Rattle.set_format.specs.Sets.{FitsEntry, tag_text}

length-filled : (k : ℕ) (xs : List ℕ) → length xs ≤ k → length (filled k xs) ≡ k
length-filled k xs h = length-append xs (replicate (k - length xs) 0) ∙ ap (λ (j : ℕ). length xs + j) (length-replicate (k - length xs) 0) ∙ omega arith

pub length-entry : (b : BodyOrder) → FitsEntry b → length (entry_of b) ≡ 56
length-entry b h =
    let s : length (filled 16 b.start) ≡ 16 = length-filled 16 b.start h.0 in
    let n : length (filled 32 b.name) ≡ 32 = length-filled 32 b.name h.1 in
    let e = length-append (filled 16 b.start) (filled 32 b.name) in
    omega (arith, e, s, n)

-- 4 bytes of header, 1 with the number, 56 of the entry
pub length-tag_text : (o : Order) (m k : ℕ) (b : BodyOrder) (bytes : List ℕ) → FitsEntry b → length (tag_text o m k b bytes) ≡ 61 + length bytes
length-tag_text o m k b bytes h = let e = length-append (entry_of b) bytes in let l = length-entry b h in omega (arith, e, l)

-- what a text's length says of its end
ends : (n len : ℕ) (text : List ℕ) → length text ≡ len → ends_whole n text ≡ eqb (len - n * ((len - 1) / n)) n
ends n len text e =
    ap (λ (k : ℕ). eqb k n) (length-drop (n * blocks_before n text) text ∙ ap (λ (k : ℕ). k - n * ((k - 1) / n)) e)

pub chosen : (t : Meaning) (len : ℕ) (text : List ℕ) (whole : Bool) → length text ≡ len → eqb (len - t.size * ((len - 1) / t.size)) t.size ≡ whole
    → last_subkey t text ≡ cond whole (subkey1 t) (subkey2 t)
chosen t len text whole e w = ap (λ (b : Bool). cond b (subkey1 t) (subkey2 t)) (ends t.size len text e ∙ w)
