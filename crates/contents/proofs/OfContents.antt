-- Facts of every value of type Contents, from its invariant.
use Rattle.std.proofs.Common.{Option, slice_get, take_all, ◌≡◌, ℕ, ◌+◌, ◌*◌, ◌≤◌, Bool, true, cond, List, ◌++◌, length, take, drop, Some, Ok, sym, refl, ap, ◌∙◌, subst, ap₂, arith}
use Rattle.std.specs.List.{flat_map}
use Rattle.std.specs.Option.{option_map}
use Rattle.std.proofs.ByRecursion.{All-get_or}
use Rattle.std.proofs.lemmas.List.{take-append-drop}
use Rattle.std.proofs.lemmas.Option.{slice_get-map, get_or_from_slice_get, slice_get_within}
use Rattle.std.proofs.lemmas.Bool.{le-leb}
use Rattle.sheet_format.specs.Orders.{BodyOrder}
use Rattle.sheet_format.specs.Sizes.{block_length}
use Rattle.contents_format.specs.Layout.{entry_of, header_of}
use Rattle.contents_format.specs.Reading.{contents_read}
use Rattle.contents_laws.specs.Belonging.{FromSheet}
use Rattle.contents_laws.proofs.Law.{length-entries, from-sound, read-if-from}
use Rattle.contents.specs.Entries.{bodies_in, body_in, bytes_in, entries_in, is_held}
use Rattle.contents.specs.Models.{said_by, bytes_of, body_at, written}
use Rattle.contents.specs.declared.Contents.{Contents}
use Rattle.contents.specs.declared.entry.Entry.{Entry}
use Rattle.contents.proofs.Held.{Good, good-if, held-if, entries-same}

pub good : (c : Contents) → Good c.cipher (entries_in c.entries)
good c = good-if c.cipher (entries_in c.entries) c.sound

module _ (c : Contents) where
  abbrev n : ℕ
  n = block_length c.cipher

  abbrev es : List Entry
  es = entries_in c.entries

  abbrev bs : List BodyOrder
  bs = bodies_in n es

  -- an entry that is found has its body's bytes
  pub entry-same : (i : ℕ) (e : Entry) → Some e ≡ slice_get es i → bytes_in e ≡ entry_of (body_in n e)
  entry-same i e found =
      let at = get_or_from_slice_get es i e e (sym found) in
      let t = All-get_or (λ x. is_held n x ≡ true) es i e (slice_get_within es i e (sym found)) (good c).held in
      (held-if n e (subst (λ (x : Entry). is_held n x ≡ true) at t)).same

  pub bytes-found : (i : ℕ) (e : Entry) (xs : List ℕ) → xs ≡ bytes_in e → Some e ≡ slice_get es i → Some xs ≡ option_map entry_of (body_at c i)
  bytes-found i e xs is found =
      ap (λ (ys : List ℕ). Some ys) (is ∙ entry-same i e found)
      ∙ ap (λ (o : Option Entry). option_map entry_of (option_map (body_in n) o)) found
      ∙ ap (option_map entry_of) (sym (slice_get-map (body_in n) es i))

  pub length_whole : length (bytes_of c) ≡ 4 + 56 * length es
  length_whole =
      let g = good c in
      let many = g.many in
      let long = length-entries c.cipher bs g.sound.each in
      omega arith

  pub whole-belongs : FromSheet (bytes_of c) (said_by c)
  whole-belongs =
      let g = good c in
      let some = g.some in
      let many = g.many in
      from-sound c.cipher c.tag_block bs (bytes_of c) g.sound (omega arith) refl

  pub whole-read : contents_read (bytes_of c) ≡ Ok (said_by c)
  whole-read = read-if-from (bytes_of c) (said_by c) whole-belongs

  abbrev header : List ℕ
  header = header_of (said_by c).order (said_by c).tag

  -- all entries, as they are written
  whole_is : header ++ flat_map bytes_in es ≡ bytes_of c
  whole_is = ap (λ (xs : List ℕ). header ++ xs) (entries-same n es (good c).held)

  pub written-output : (out after : List ℕ) (i : ℕ) → 4 + 56 * length es ≤ length out → i ≡ length es
      → take (4 + 56 * i) after ≡ header ++ flat_map bytes_in (take i es) → drop (4 + 56 * i) after ≡ drop (4 + 56 * i) out
      → after ≡ written (bytes_of c) out
  written-output out after i room all front back =
      let long = length_whole in
      let t = le-leb (length (bytes_of c)) (length out) (omega arith) in
      let k : length (bytes_of c) ≡ 4 + 56 * i = omega arith in
      let f : take (4 + 56 * i) after ≡ bytes_of c = front ∙ ap (λ (xs : List Entry). header ++ flat_map bytes_in xs) (take_all i es (omega arith)) ∙ whole_is in
      sym (take-append-drop (4 + 56 * i) after)
      ∙ ap₂ (λ (xs ys : List ℕ). xs ++ ys) f (back ∙ ap (λ (j : ℕ). drop j out) (sym k))
      ∙ sym (ap (λ (b : Bool). cond b (bytes_of c ++ drop (length (bytes_of c)) out) out) t)
