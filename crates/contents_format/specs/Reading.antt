-- What contents say, or the fault for which they are refused.
use Rattle.std.specs.Prelude.{ℕ, zero, suc, ◌+◌, ◌*◌, Bool, cond, not, ◌&&◌, List, [], ◌∷◌, ◌++◌, length, take, drop, Some, None, Ok, Err, Option, Result, ◌==◌, nat_le, slice_index}
use Rattle.std.specs.List.{list_all, list_any}
use Rattle.std.specs.Str.{bytes_eq}
use Rattle.sheet_format.specs.Lines.{bind, given, is_name}
use Rattle.sheet_format.specs.Orders.{BodyOrder, Order, is_ctr, map_ok, total_blocks}
use Rattle.sheet_format.specs.Sizes.{block_length, cipher_with}
use Rattle.sheet_format.specs.declared.CipherKind.{CipherKind}
use Rattle.sheet_format.specs.declared.Mode.{Mode}
use Rattle.sheet_format.specs.declared.Mode.TheVariants.{Ctr, Cbc}
use Rattle.contents_format.specs.BlockLengths.{bytes_of, with_bytes}
use Rattle.contents_format.specs.Layout.{start_length}
use Rattle.contents_format.specs.declared.BlockLength.{BlockLength}
use Rattle.contents_format.specs.declared.ContentsFault.{ContentsFault}
use Rattle.contents_format.specs.declared.ContentsFault.TheVariants.{Header, Entry}

-- what contents say: the order of a sheet, and the block length m of the tag cipher
pub record SetOrder : Type 0 where
  pub order : Order
  pub tag : ℕ

abbrev pub mode_numbered : ℕ → Option Mode
mode_numbered x = cond (x == 1) (Some Ctr) (cond (x == 2) (Some Cbc) None)

abbrev pub all_zero : List ℕ → Bool
all_zero = list_all (λ x. x == 0)

-- the fields of an entry: L in bytes 4 to 7, START from byte 8, the name from byte 24
abbrev pub length_field : List ℕ → ℕ
length_field e = slice_index e 4 * 16777216 + slice_index e 5 * 65536 + slice_index e 6 * 256 + slice_index e 7

abbrev pub start_field : List ℕ → List ℕ
start_field e = take 16 (drop 8 e)

abbrev pub name_field : List ℕ → List ℕ
name_field e = drop 24 e

-- the body that an entry of 56 bytes speaks of, in the mode that its first byte names; n is the block length
abbrev pub body_at : ℕ → Mode → List ℕ → BodyOrder
body_at n mode e = record {
  mode = mode;
  start = take (start_length mode n) (start_field e);
  len = length_field e;
  name = take (slice_index e 1) (name_field e);
}

-- k bytes of a name, and zeros behind START and name
abbrev pub fields_hold : List ℕ → ℕ → List ℕ → ℕ → Bool
fields_hold start l name k = is_name (take k name) && (all_zero (drop l start) && all_zero (drop k name))

-- the two zeros, L, START and the name
abbrev pub is_entry : ℕ → Mode → List ℕ → Bool
is_entry n mode e =
    (slice_index e 2 == 0) && (slice_index e 3 == 0 && (nat_le (length_field e) 1048576 && (nat_le (slice_index e 1) 32
    && fields_hold (start_field e) (start_length mode n) (name_field e) (slice_index e 1))))

-- the body of an entry, if the entry is one by itself
abbrev pub entry_read : ℕ → List ℕ → Option BodyOrder
entry_read n e = bind (mode_numbered (slice_index e 0)) (λ mode. given (is_entry n mode e) (Some (body_at n mode e)))

abbrev pub name_in : List ℕ → List BodyOrder → Bool
name_in name = list_any (λ b. bytes_eq b.name name)

abbrev pub ctr_start_in : List ℕ → List BodyOrder → Bool
ctr_start_in start = list_any (λ b. is_ctr b.mode && bytes_eq b.start start)

-- a body may follow the earlier ones: another name, in ctr another START, not too many blocks together
abbrev pub may_follow : ℕ → List BodyOrder → BodyOrder → Bool
may_follow n earlier b =
    not (name_in b.name earlier) && (not (is_ctr b.mode && ctr_start_in b.start earlier)
    && nat_le (total_blocks n (earlier ++ b ∷ [])) 1000000)

-- the next body, if its entry is one and it may follow
abbrev pub next_body : ℕ → List BodyOrder → List ℕ → Option BodyOrder
next_body n earlier e = bind (entry_read n e) (λ b. given (may_follow n earlier b) (Some b))

abbrev pub go_on : {A : Type 0} → ContentsFault → Option BodyOrder → (BodyOrder → Result A ContentsFault) → Result A ContentsFault
go_on fault None f = Err fault
go_on fault (Some b) f = f b

-- k entries behind those of the earlier bodies
abbrev pub bodies_from : ℕ → List BodyOrder → ℕ → List ℕ → Result (List BodyOrder) ContentsFault
bodies_from n earlier zero xs = Ok earlier
bodies_from n earlier (suc k) xs =
    go_on (Entry (length earlier + 1)) (next_body n earlier (take 56 xs)) (λ b. bodies_from n (earlier ++ b ∷ []) k (drop 56 xs))

-- header and total length
abbrev pub is_frame : ℕ → ℕ → List ℕ → Bool
is_frame edition count entries = edition == 1 && (nat_le 1 count && (nat_le count 32 && length entries == 56 * count))

abbrev pub said_of : CipherKind → BlockLength → List BodyOrder → SetOrder
said_of c m bs = record { order = record { cipher = c; bodies = bs }; tag = bytes_of m }

-- what contents with that header say
abbrev pub framed : ℕ → ℕ → Option CipherKind → Option BlockLength → List ℕ → Result SetOrder ContentsFault
framed edition count None m entries = Err Header
framed edition count (Some c) None entries = Err Header
framed edition count (Some c) (Some m) entries =
    cond (is_frame edition count entries) (map_ok (said_of c m) (bodies_from (block_length c) [] count entries)) (Err Header)

abbrev pub contents_read : List ℕ → Result SetOrder ContentsFault
contents_read [] = Err Header
contents_read (edition ∷ []) = Err Header
contents_read (edition ∷ n ∷ []) = Err Header
contents_read (edition ∷ n ∷ count ∷ []) = Err Header
contents_read (edition ∷ n ∷ count ∷ m ∷ entries) = framed edition count (cipher_with n) (with_bytes m) entries
