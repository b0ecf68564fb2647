-- What contents say keeps the law of reading.
use Rattle.std.proofs.Common.{◌≡◌, ℕ, zero, suc, ◌+◌, ◌*◌, ◌<◌, ◌≤◌, true, false, eqb, ◌⊎◌, List, [], ◌∷◌, ◌++◌, length, take, drop, Some, None, Ok, Err, Option, Result, sym, refl, ap, ◌∙◌, subst, ap₂, inl, inr, ⊎_elim, arith, length-append, take-add}
use Rattle.std.specs.List.{flat_map, AllByRecursion}
use Rattle.std.proofs.lemmas.List.{length-take-le, take-append-drop, take-take, take_at, take_all, drop_at}
use Rattle.std.proofs.lemmas.Bool.{cases_Bool, cases_order, and_parts, eqb-true, eqb-false, eq-eqb, leb-true, le-leb}
use Rattle.sheet_format.specs.Orders.{BodyOrder, map_ok}
use Rattle.sheet_format.proofs.Ciphers.{cipher-known}
use Rattle.sheet_format.specs.Sizes.{cipher_with, block_length}
use Rattle.sheet_format.specs.declared.CipherKind.{CipherKind}
use Rattle.sheet_format.specs.declared.CipherKind.TheVariants.{Kuznyechik, Magma}
use Rattle.sheet_laws.proofs.Clash.{clash}
use Rattle.contents_format.specs.BlockLengths.{bytes_of, with_bytes}
use Rattle.contents_format.specs.Layout.{entry_of, contents_of}
use Rattle.contents_format.specs.Reading.{SetOrder, bodies_from, is_frame, said_of, contents_read}
use Rattle.contents_format.specs.declared.BlockLength.{BlockLength}
use Rattle.contents_format.specs.declared.BlockLength.TheVariants.{Eight, Sixteen}
use Rattle.contents_format.specs.declared.ContentsFault.{ContentsFault}
use Rattle.contents_format.specs.declared.ContentsFault.TheVariants.{Header, Entry}
use Rattle.contents_laws.specs.Belonging.{IsBlockLength, FromSheet, Belongs, Framed, first_entries, Refused, ReadLaw, ReadingKeepsLaw}
use Rattle.contents_laws.proofs.Bodies.{Stopped, Walked, bodies-made, stopped, walked}
use Rattle.contents_laws.proofs.Constructed.{passes-if-sound}
use Rattle.contents_laws.proofs.Digits.{Bytes}
use Rattle.contents_laws.proofs.Entries.{length-entry}
use Rattle.contents_laws.proofs.Ordered.{sound-if-passes}
use Rattle.contents_laws.proofs.Sound.{Fit, Sound, sound_none, sound-front}

-- Block lengths and the bytes that they are.

cipher-found : (n : ℕ) (o : Option CipherKind) → cipher_with n ≡ o
    → ((o ≡ None) × (IsBlockLength n → ⊥)) ⊎ ((c : CipherKind) × (o ≡ Some c) × (n ≡ block_length c))
cipher-found n o e =
    ⊎_elim
    (λ (t : eqb n 8 ≡ true).
    let s : Some Magma ≡ o = rw t at e in
    inr (Magma, sym s, eqb-true n 8 t))
    (λ (t : eqb n 8 ≡ false).
    ⊎_elim
    (λ (u : eqb n 16 ≡ true).
    let s : Some Kuznyechik ≡ o = rw (t, u) at e in
    inr (Kuznyechik, sym s, eqb-true n 16 u))
    (λ (u : eqb n 16 ≡ false).
    let s : None ≡ o = rw (t, u) at e in
    inl (sym s, λ h. ⊎_elim (eqb-false n 8 t) (eqb-false n 16 u) h))
    (cases_Bool (eqb n 16)))
    (cases_Bool (eqb n 8))

bytes-found : (m : ℕ) (o : Option BlockLength) → with_bytes m ≡ o
    → ((o ≡ None) × (IsBlockLength m → ⊥)) ⊎ ((l : BlockLength) × (o ≡ Some l) × (m ≡ bytes_of l))
bytes-found m o e =
    ⊎_elim
    (λ (t : eqb m 8 ≡ true).
    let s : Some Eight ≡ o = rw t at e in
    inr (Eight, sym s, eqb-true m 8 t))
    (λ (t : eqb m 8 ≡ false).
    ⊎_elim
    (λ (u : eqb m 16 ≡ true).
    let s : Some Sixteen ≡ o = rw (t, u) at e in
    inr (Sixteen, sym s, eqb-true m 16 u))
    (λ (u : eqb m 16 ≡ false).
    let s : None ≡ o = rw (t, u) at e in
    inl (sym s, λ h. ⊎_elim (eqb-false m 8 t) (eqb-false m 16 u) h))
    (cases_Bool (eqb m 16)))
    (cases_Bool (eqb m 8))

bytes-made : (m : ℕ) → IsBlockLength m → (l : BlockLength) × (with_bytes m ≡ Some l) × (bytes_of l ≡ m)
bytes-made m h =
    ⊎_elim
    (λ (e : m ≡ 8). let r : (l : BlockLength) × (with_bytes m ≡ Some l) × (bytes_of l ≡ m) = (Eight, ap with_bytes e, sym e) in r)
    (λ (e : m ≡ 16). let r : (l : BlockLength) × (with_bytes m ≡ Some l) × (bytes_of l ≡ m) = (Sixteen, ap with_bytes e, sym e) in r)
    h

pub length-is : (c : CipherKind) → IsBlockLength (block_length c)
length-is Kuznyechik = inr refl
length-is Magma = inl refl

pub bytes-are : (l : BlockLength) → IsBlockLength (bytes_of l)
bytes-are Eight = inl refl
bytes-are Sixteen = inr refl

-- The entries of bodies.

pub length-entries : (c : CipherKind) (bs : List BodyOrder) → AllByRecursion (Fit (block_length c)) bs → length (flat_map entry_of bs) ≡ 56 * length bs
length-entries c [] h = refl
length-entries c (b ∷ bs) h =
    omega (arith, length-append (entry_of b) (flat_map entry_of bs), length-entry c b h.0, length-entries c bs h.1)

-- the entries of the first j bodies
front-entries : (c : CipherKind) (j : ℕ) (bs : List BodyOrder) → AllByRecursion (Fit (block_length c)) bs → take (56 * j) (flat_map entry_of bs) ≡ flat_map entry_of (take j bs)
front-entries c zero bs h = refl
front-entries c (suc j) [] h = take_all (56 * suc j) [] (omega arith)
front-entries c (suc j) (b ∷ bs) h =
    let times : 56 * suc j ≡ 56 + 56 * j = omega arith in
    let long = length-entry c b h.0 in
    ap (λ (m : ℕ). take m (entry_of b ++ flat_map entry_of bs)) times
    ∙ take-add 56 (56 * j) (entry_of b ++ flat_map entry_of bs)
    ∙ ap₂ (λ (u v : List ℕ). u ++ v) (take_at (entry_of b) (flat_map entry_of bs) 56 long)
    (ap (take (56 * j)) (drop_at (entry_of b) (flat_map entry_of bs) 56 long) ∙ front-entries c j bs h.1)

-- A passed sheet's contents are read, and say what it orders.

pub read-if-from : (bytes : List ℕ) (s : SetOrder) → FromSheet bytes s → contents_read bytes ≡ Ok s
read-if-from bytes s f =
    let o = s.order in
    let c = o.cipher in
    let p = sound-if-passes f.sheet o f.passes in
    let m = bytes-made s.tag f.tagged in
    let some : 1 ≤ length o.bodies = p.1 in
    let few : length o.bodies ≤ 32 = p.0.few in
    ap contents_read f.are
    ∙ rw (
      cipher-known c,
      m.1,
      le-leb 1 (length o.bodies) some,
      le-leb (length o.bodies) 32 few,
      eq-eqb (length (flat_map entry_of o.bodies)) (56 * length o.bodies) (length-entries c o.bodies p.0.each),
      bodies-made c [] o.bodies p.0,
      m.2,
    )

-- Header and total length.

-- a good frame, its block lengths by name, and what is read then
record Opened (bytes : List ℕ) : Type 0 where
  frame : Framed bytes
  kind : CipherKind
  tag : BlockLength
  size_is : frame.size ≡ block_length kind
  tag_is : frame.tag ≡ bytes_of tag
  read : contents_read bytes ≡ map_ok (said_of kind tag) (bodies_from (block_length kind) [] frame.count frame.entries)

abbrev Unframed : List ℕ → Type 0
Unframed bytes = (Framed bytes → ⊥) × (contents_read bytes ≡ Err Header)

-- the header's four bytes and the rest are those of the frame
parts_same : (edition n count m : ℕ) (entries : List ℕ) (f : Framed (edition ∷ n ∷ count ∷ m ∷ entries))
    → (edition ≡ 1) × (n ≡ f.size) × (count ≡ f.count) × (m ≡ f.tag) × (entries ≡ f.entries)
parts_same edition n count m entries f =
    let e = f.parts in
    (cc, cc, cc, cc, cc)

pub frame-test : (edition count : ℕ) (entries : List ℕ) → is_frame edition count entries ≡ true
    → (edition ≡ 1) × (1 ≤ count) × (count ≤ 32) × (length entries ≡ 56 * count)
frame-test edition count entries t =
    let p = and_parts _ _ t in
    let q = and_parts _ _ p.1 in
    let r = and_parts _ _ q.1 in
    (eqb-true edition 1 p.0, leb-true 1 count q.0, leb-true count 32 r.0, eqb-true (length entries) (56 * count) r.1)

framed-tests : (n m edition count : ℕ) (entries : List ℕ) → Framed (edition ∷ n ∷ count ∷ m ∷ entries) → is_frame edition count entries ≡ true
framed-tests n m edition count entries f =
    let p = parts_same edition n count m entries f in
    let many = p.2 in
    let long : length (edition ∷ n ∷ count ∷ m ∷ entries) ≡ 4 + 56 * f.count = f.long in
    let some : 1 ≤ f.count = f.some in
    let few : f.count ≤ 32 = f.few in
    rw (eq-eqb edition 1 p.0, le-leb 1 count (omega arith), le-leb count 32 (omega arith), eq-eqb (length entries) (56 * count) (omega arith))

frame-cases : (edition n count m : ℕ) (entries : List ℕ)
    → Opened (edition ∷ n ∷ count ∷ m ∷ entries) ⊎ Unframed (edition ∷ n ∷ count ∷ m ∷ entries)
frame-cases edition n count m entries =
    let bytes : List ℕ = edition ∷ n ∷ count ∷ m ∷ entries in
    ⊎_elim
    (λ (p : (cipher_with n ≡ None) × (IsBlockLength n → ⊥)).
    inr (λ f. p.1 (rw (parts_same edition n count m entries f).1 f.sized), rw p.0))
    (λ (p : (c : CipherKind) × (cipher_with n ≡ Some c) × (n ≡ block_length c)).
    ⊎_elim
    (λ (q : (with_bytes m ≡ None) × (IsBlockLength m → ⊥)).
    inr (λ f. q.1 (rw (parts_same edition n count m entries f).3 f.tagged), rw (p.1, q.0)))
    (λ (q : (l : BlockLength) × (with_bytes m ≡ Some l) × (m ≡ bytes_of l)).
    ⊎_elim
    (λ (t : is_frame edition count entries ≡ true).
    let u = frame-test edition count entries t in
    let long = u.3 in
    let f : Framed (edition ∷ n ∷ count ∷ m ∷ entries) = record {
      size = n;
      count = count;
      tag = m;
      entries = entries;
      parts = ap (λ (x : ℕ). x ∷ n ∷ count ∷ m ∷ entries) u.0;
      sized = rw p.2 (length-is p.0);
      tagged = rw q.2 (bytes-are q.0);
      some = u.1;
      few = u.2;
      long = omega arith;
    } in
    let r : Opened (edition ∷ n ∷ count ∷ m ∷ entries) = record {
      frame = f;
      kind = p.0;
      tag = q.0;
      size_is = p.2;
      tag_is = q.2;
      read = rw (p.1, q.1, t);
    } in
    inl r)
    (λ (t : is_frame edition count entries ≡ false).
    inr (λ f. let z : true ≡ false = sym (framed-tests n m edition count entries f) ∙ t in clash (cc), rw (p.1, q.1, t)))
    (cases_Bool (is_frame edition count entries)))
    (bytes-found m (with_bytes m) refl))
    (cipher-found n (cipher_with n) refl)

short-frame : (bytes : List ℕ) → length bytes < 4 → Framed bytes → ⊥
short-frame bytes h f = let long : length bytes ≡ 4 + 56 * f.count = f.long in omega arith

opened-or-not : (bytes : List ℕ) → Opened bytes ⊎ Unframed bytes
opened-or-not [] = inr (short-frame [] (omega arith), refl)
opened-or-not (edition ∷ []) = inr (short-frame (edition ∷ []) (omega arith), refl)
opened-or-not (edition ∷ n ∷ []) = inr (short-frame (edition ∷ n ∷ []) (omega arith), refl)
opened-or-not (edition ∷ n ∷ count ∷ []) = inr (short-frame (edition ∷ n ∷ count ∷ []) (omega arith), refl)
opened-or-not (edition ∷ n ∷ count ∷ m ∷ entries) = frame-cases edition n count m entries

-- Sound bodies under a good header belong to a sheet.

pub from-sound : (c : CipherKind) (l : BlockLength) (bs : List BodyOrder) (bytes : List ℕ) → Sound (block_length c) bs → 1 ≤ length bs
    → bytes ≡ contents_of (record { cipher = c; bodies = bs }) (bytes_of l) → FromSheet bytes (said_of c l bs)
from-sound c l bs bytes s some e = record { sheet = _; passes = passes-if-sound c bs s some; tagged = bytes-are l; are = e }

module _ (bytes : List ℕ) (o : Opened bytes) where
  abbrev c : CipherKind
  c = o.kind

  abbrev f : Framed bytes
  f = o.frame

  front-belongs : (bs : List BodyOrder) → Sound (block_length c) bs → 1 ≤ length bs
      → take (56 * length bs) f.entries ≡ flat_map entry_of bs → Belongs (first_entries f (length bs))
  front-belongs bs s some e = (
    said_of c o.tag bs,
    from-sound c o.tag bs (first_entries f (length bs)) s some
        (ap₂ (λ (x : ℕ) (xs : List ℕ). 1 ∷ x ∷ length bs ∷ xs) o.size_is (ap₂ ◌∷◌ o.tag_is e)),
  )

  -- a sheet that has the first k entries, counted as k
  belongs-sound : (k : ℕ) → Belongs (first_entries f k)
      → (bs : List BodyOrder) × Sound (block_length c) bs × (length bs ≡ k) × (take (56 * k) f.entries ≡ flat_map entry_of bs)
  belongs-sound k b =
      let r = b.1.are in
      let q = b.0.order in
      let size : f.size ≡ block_length q.cipher = cc in
      let count : k ≡ length q.bodies = cc in
      let entries : take (56 * k) f.entries ≡ flat_map entry_of q.bodies = cc in
      let s = (sound-if-passes b.1.sheet q b.1.passes).0 in
      (q.bodies, subst (λ (x : ℕ). Sound x q.bodies) (sym size ∙ o.size_is) s, sym count, entries)

  -- the first j of bodies that are read there
  shorter-belongs : (bs : List BodyOrder) → Sound (block_length c) bs → take (56 * length bs) f.entries ≡ flat_map entry_of bs
      → (j : ℕ) → 1 ≤ j → j ≤ length bs → Belongs (first_entries f j)
  shorter-belongs bs s e j some few =
      let many : length (take j bs) ≡ j = length-take-le j bs few in
      let t : Sound (block_length c) (take j bs) = sound-front (block_length c) (take j bs) (drop j bs) (rw (take-append-drop j bs) s) in
      let front : take (56 * j) f.entries ≡ flat_map entry_of (take j bs) =
      sym (take-take (56 * j) (56 * length bs) f.entries (omega arith)) ∙ ap (take (56 * j)) e ∙ front-entries c j bs s.each in
      subst (λ (k : ℕ). Belongs (first_entries f k)) many
      (front-belongs (take j bs) t (rw many some) (ap (λ (k : ℕ). take (56 * k) f.entries) many ∙ front))

  long : length f.entries ≡ 56 * f.count
  long = let h : length bytes ≡ 4 + 56 * f.count = f.long in let e = ap length f.parts in omega arith

  -- all entries
  whole_from : (bs : List BodyOrder) → Walked c [] f.count f.entries bs → FromSheet bytes (said_of c o.tag bs)
  whole_from bs w =
      let later : w.later ≡ bs = sym w.are in
      let many : length bs ≡ f.count = ap length (sym later) ∙ w.many in
      let entries : f.entries ≡ flat_map entry_of bs = w.entries ∙ ap (flat_map entry_of) later in
      let some : 1 ≤ f.count = f.some in
      from-sound c o.tag bs bytes w.sound (rw many some)
      (f.parts ∙ ap₂ (λ (x : ℕ) (xs : List ℕ). 1 ∷ x ∷ xs) o.size_is (ap₂ ◌∷◌ (sym many) (ap₂ ◌∷◌ o.tag_is entries)))

  stopped-refused : (fault : ContentsFault) → Stopped c [] f.count f.entries fault → Refused bytes fault
  stopped-refused fault s =
      let k : ℕ = length s.read + 1 in
      let less : length s.read < f.count = s.left in
      let is : fault ≡ Entry (length s.read + 1) =
      s.place ∙ ap (λ (i : ℕ). Entry i) (let h : 0 + length s.read + 1 ≡ length s.read + 1 = omega arith in h) in
      let none : Belongs (first_entries f (length s.read + 1)) → ⊥ =
      λ b. (let q = belongs-sound (length s.read + 1) b in s.wrong q.0 q.2 q.3 q.1) in
      let r : Refused bytes (Entry (length s.read + 1)) = (
        f,
        omega arith,
        omega arith,
        none,
        λ j some small. shorter-belongs s.read s.sound s.front j some (omega arith),
      ) in
      subst (Refused bytes) (sym is) r

-- Contents that belong are not refused, and are refused in one way only.

same-fronts : (bytes : List ℕ) (f g : Framed bytes) (k : ℕ) → first_entries f k ≡ first_entries g k
same-fronts bytes f g k =
    let e = sym f.parts ∙ g.parts in
    let size : f.size ≡ g.size = cc in
    let tag : f.tag ≡ g.tag = cc in
    let entries : f.entries ≡ g.entries = cc in
    ap₂ (λ (x : ℕ) (xs : List ℕ). 1 ∷ x ∷ k ∷ xs) size (ap₂ (λ (x : ℕ) (xs : List ℕ). x ∷ take (56 * k) xs) tag entries)

one-refusal : (bytes : List ℕ) (d e : ContentsFault) → Refused bytes d → Refused bytes e → d ≡ e
one-refusal bytes Header Header r s = refl
one-refusal bytes Header (Entry k) r s = absurd (r s.0)
one-refusal bytes (Entry k) Header r s = absurd (s r.0)
one-refusal bytes (Entry k) (Entry l) r s =
    ⊎_elim
    (λ (h : k ≡ l). ap (λ (i : ℕ). Entry i) h)
    (λ (h : (k < l) ⊎ (l < k)).
    ⊎_elim
    (λ (less : k < l). absurd (r.3 (subst Belongs (same-fronts bytes s.0 r.0 k) (s.4 k r.1 less))))
    (λ (less : l < k). absurd (s.3 (subst Belongs (same-fronts bytes r.0 s.0 l) (r.4 l s.1 less))))
    h)
    (cases_order k l)

answer-law : (bytes : List ℕ) (r : Result SetOrder ContentsFault) → contents_read bytes ≡ r
    → ((s : SetOrder) → r ≡ Ok s → FromSheet bytes s) → ((d : ContentsFault) → r ≡ Err d → Refused bytes d)
    → ((s : SetOrder) (d : ContentsFault) → FromSheet bytes s → Refused bytes d → ⊥) → ReadLaw bytes r
answer-law bytes (Ok s) e accept refuse apart = record {
  accepts = λ t. (accept t, λ g. sym e ∙ read-if-from bytes t g);
  refuses = λ d. (refuse d, λ g. absurd (apart s d (accept s refl) g));
}
answer-law bytes (Err d) e accept refuse apart = record {
  accepts = λ t. (accept t, λ g. sym e ∙ read-if-from bytes t g);
  refuses = λ g. (refuse g, λ h. ap (λ (x : ContentsFault). Err x) (one-refusal bytes d g (refuse d refl) h));
}

not-both : {P : Type 0} (r : Result SetOrder ContentsFault) (s : SetOrder) (d : ContentsFault) → r ≡ Ok s → r ≡ Err d → P
not-both r s d e g = clash (cc)

unframed-law : (bytes : List ℕ) → Unframed bytes → ReadLaw bytes (contents_read bytes)
unframed-law bytes u =
    subst (ReadLaw bytes) (sym u.1)
    (answer-law bytes (Err Header) u.1 (λ s e. clash (cc))
    (λ d e. (let h : Header ≡ d = cc in subst (Refused bytes) h u.0))
    (λ s d g r. not-both (contents_read bytes) s Header (read-if-from bytes s g) u.1))

module _ (bytes : List ℕ) (all : Bytes bytes) (o : Opened bytes) where
  entry-bytes : Bytes o.frame.entries
  entry-bytes = let h : Bytes (1 ∷ o.frame.size ∷ o.frame.count ∷ o.frame.tag ∷ o.frame.entries) = rw o.frame.parts at all in h.1.1.1.1

  apart-whole : (bs : List BodyOrder) → Walked o.kind [] o.frame.count o.frame.entries bs
      → (s : SetOrder) (d : ContentsFault) → FromSheet bytes s → Refused bytes d → ⊥
  apart-whole bs w s Header g r = r o.frame
  apart-whole bs w s (Entry k) g r =
      let later : w.later ≡ bs = sym w.are in
      let many : length bs ≡ o.frame.count = ap length (sym later) ∙ w.many in
      let entries : o.frame.entries ≡ flat_map entry_of bs = w.entries ∙ ap (flat_map entry_of) later in
      let h = long bytes o in
      let front : take (56 * length bs) o.frame.entries ≡ flat_map entry_of bs = take_all (56 * length bs) o.frame.entries (omega arith) ∙ entries in
      let e = sym r.0.parts ∙ o.frame.parts in
      let count : r.0.count ≡ o.frame.count = cc in
      let few : k ≤ r.0.count = r.2 in
      r.3 (subst Belongs (same-fronts bytes o.frame r.0 k) (shorter-belongs bytes o bs w.sound front k r.1 (omega arith)))

  opened-law : (r : Result (List BodyOrder) ContentsFault) → bodies_from (block_length o.kind) [] o.frame.count o.frame.entries ≡ r
      → ReadLaw bytes (contents_read bytes)
  opened-law (Ok bs) e =
      let few : o.frame.count ≤ 32 = o.frame.few in
      let w = walked o.kind [] o.frame.count o.frame.entries bs (long bytes o) entry-bytes (sound_none (block_length o.kind)) (omega arith) e in
      let read : contents_read bytes ≡ Ok (said_of o.kind o.tag bs) = o.read ∙ ap (map_ok (said_of o.kind o.tag)) e in
      subst (ReadLaw bytes) (sym read)
      (answer-law bytes (Ok (said_of o.kind o.tag bs)) read
      (λ s h. (let q : said_of o.kind o.tag bs ≡ s = cc in subst (FromSheet bytes) q (whole_from bytes o bs w)))
      (λ d h. clash (cc)) (apart-whole bs w))
  opened-law (Err d) e =
      let few : o.frame.count ≤ 32 = o.frame.few in
      let st = stopped o.kind [] o.frame.count o.frame.entries d (long bytes o) entry-bytes (sound_none (block_length o.kind)) (omega arith) e in
      let read : contents_read bytes ≡ Err d = o.read ∙ ap (map_ok (said_of o.kind o.tag)) e in
      subst (ReadLaw bytes) (sym read)
      (answer-law bytes (Err d) read (λ s h. clash (cc))
      (λ g h. (let q : d ≡ g = cc in subst (Refused bytes) q (stopped-refused bytes o d st)))
      (λ s g from r. not-both (contents_read bytes) s d (read-if-from bytes s from) read))

pub reading-keeps-law : ReadingKeepsLaw
reading-keeps-law bytes all =
    ⊎_elim
    (λ (o : Opened bytes). opened-law bytes all o _ refl)
    (unframed-law bytes)
    (opened-or-not bytes)
