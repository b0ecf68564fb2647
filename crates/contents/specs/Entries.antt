-- What entries mean, and when they are those of a sheet that passes.
use Rattle.std.specs.Prelude.{ℕ, Bool, true, ◌&&◌, List, [], ◌∷◌, ◌++◌, map, length, take, ◌==◌, nat_le, nat_lt}
use Rattle.std.specs.List.{list_all}
use Rattle.std.specs.Str.{bytes_eq}
use Rattle.sheet_format.specs.Lines.{is_name}
use Rattle.sheet_format.specs.Orders.{BodyOrder}
use Rattle.sheet_format.specs.Sizes.{block_length}
use Rattle.sheet_format.specs.declared.CipherKind.{CipherKind}
use Rattle.contents_format.specs.Layout.{entry_of, four_bytes, mode_number, start_length}
use Rattle.contents_format.specs.Reading.{may_follow}
use Rattle.contents.specs.declared.entries.Entries.{Entries}
use Rattle.contents.specs.declared.entry.Entry.{Entry}

-- its name
abbrev pub name_of : Entry → List ℕ
name_of e = take e.name_length e.name

-- the body that an entry is of; n is the block length
abbrev pub body_in : ℕ → Entry → BodyOrder
body_in n e = record {
  mode = e.mode;
  start = take (start_length e.mode n) e.start;
  len = e.length;
  name = name_of e;
}

-- the bodies of entries
abbrev pub bodies_in : ℕ → List Entry → List BodyOrder
bodies_in n es = map (body_in n) es

-- the entries that are held
abbrev pub entries_in : Entries → List Entry
entries_in e = take e.count e.rows

-- the bytes of an entry, field by field
abbrev pub bytes_in : Entry → List ℕ
bytes_in e =
    mode_number e.mode ∷ e.name_length ∷ 0 ∷ 0 ∷ (four_bytes e.length ++ (e.start ++ e.name))

abbrev pub are_bytes : List ℕ → Bool
are_bytes = list_all (λ x. nat_lt x 256)

-- a body by itself is one that a sheet can order
abbrev pub is_fit : ℕ → BodyOrder → Bool
is_fit n b =
    nat_le b.len 1048576 && (length b.start == start_length b.mode n && (are_bytes b.start && is_name b.name))

-- the entry's bytes are those of the entry of its body
abbrev pub is_held : ℕ → Entry → Bool
is_held n e = bytes_eq (bytes_in e) (entry_of (body_in n e)) && is_fit n (body_in n e)

abbrev pub are_held : ℕ → List Entry → Bool
are_held n = list_all (is_held n)

-- each body may follow those before it
abbrev pub may_stand : ℕ → List BodyOrder → List BodyOrder → Bool
may_stand n earlier [] = true
may_stand n earlier (b ∷ bs) = may_follow n earlier b && may_stand n (earlier ++ b ∷ []) bs

-- 1 to 32 entries, each by itself right, and all of them together
abbrev pub is_contents : CipherKind → List Entry → Bool
is_contents c es =
    nat_le 1 (length es) && (nat_le (length es) 32
    && (are_held (block_length c) es && may_stand (block_length c) [] (bodies_in (block_length c) es)))
