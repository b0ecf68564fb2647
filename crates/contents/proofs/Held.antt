-- Entries that are held: their bytes are those of the entries of their bodies, and the bodies are those of a sheet that passes.
use Rattle.std.proofs.Common.{◌≡◌, ℕ, ◌+◌, ◌<◌, ◌≤◌, true, ltb, List, [], ◌∷◌, ◌++◌, map, length, get_or, Some, Decides, sym, refl, ◌∙◌, ap₂, append_assoc, append-nil, arith}
use lib.ListN.{length-map}
use Rattle.std.specs.List.{flat_map, AllByRecursion}
use Rattle.std.proofs.ByRecursion.{All-from_get_or, All-push, Decides-by_and}
use Rattle.std.proofs.lemmas.Slice.Eq.{bytes_eq-Decides}
use Rattle.std.proofs.lemmas.List.{length_push}
use Rattle.std.proofs.lemmas.Bool.{and_parts, and_from, eqb-true, eq-eqb, leb-true, le-leb}
use Rattle.std.proofs.lemmas.Bool.Decides.{Decides-ltb}
use Rattle.sheet_format.specs.Orders.{BodyOrder}
use Rattle.sheet_format.specs.Sizes.{block_length}
use Rattle.sheet_format.specs.declared.CipherKind.{CipherKind}
use Rattle.contents_format.specs.Layout.{entry_of, start_length}
use Rattle.contents_format.specs.Reading.{entry_read}
use Rattle.contents_laws.proofs.Entries.{entry_found}
use Rattle.contents_laws.proofs.Sound.{Fit, Sound, sound_none, sound-push, next_of, next-decides}
use Rattle.contents.specs.Entries.{body_in, bodies_in, bytes_in, are_bytes, is_fit, is_held, are_held, may_stand, is_contents}
use Rattle.contents.specs.declared.entry.Entry.{Entry}

bytes_decides : (xs : List ℕ) → Decides (are_bytes xs) (AllByRecursion (λ x. x < 256) xs)
bytes_decides = Decides-by_and (λ x. ltb x 256) (λ x. x < 256) are_bytes (λ x. Decides-ltb x 256) refl (λ _ _. refl)

pub fit-test : (n : ℕ) (b : BodyOrder) → Fit n b → is_fit n b ≡ true
fit-test n b f =
    and_from _ _ (le-leb b.len 1048576 f.limit)
    (and_from _ _ (eq-eqb (length b.start) (start_length b.mode n) f.long)
    (and_from _ _ ((bytes_decides b.start).1 f.bytes) f.named))

pub fit-if : (n : ℕ) (b : BodyOrder) → is_fit n b ≡ true → Fit n b
fit-if n b t =
    let p = and_parts _ _ t in
    let q = and_parts _ _ p.1 in
    let r = and_parts _ _ q.1 in
    record {
      limit = leb-true b.len 1048576 p.0;
      long = eqb-true (length b.start) (start_length b.mode n) q.0;
      bytes = (bytes_decides b.start).0 r.0;
      named = r.1;
    }

pub all-bytes : (xs : List ℕ) → ((i : ℕ) → get_or xs i 0 < 256) → AllByRecursion (λ x. x < 256) xs
all-bytes xs h = All-from_get_or (λ x. x < 256) xs 0 (λ i _. h i)

-- an entry that is read of 56 bytes is held
pub held-if-read : (c : CipherKind) (e : Entry) (xs : List ℕ) → bytes_in e ≡ xs → Some (body_in (block_length c) e) ≡ entry_read (block_length c) xs
    → length xs ≡ 56 → ((i : ℕ) → get_or xs i 0 < 256) → is_held (block_length c) e ≡ true
held-if-read c e xs same read long small =
    let n = block_length c in
    let f = entry_found c xs (body_in n e) long (all-bytes xs small) (sym read) in
    and_from _ _ ((bytes_eq-Decides (bytes_in e) (entry_of (body_in n e))).1 (same ∙ f.0)) (fit-test n (body_in n e) f.1)

-- what it is to be held
pub record Held (n : ℕ) (e : Entry) : Type 0 where
  pub same : bytes_in e ≡ entry_of (body_in n e)
  pub fit : Fit n (body_in n e)

pub held-if : (n : ℕ) (e : Entry) → is_held n e ≡ true → Held n e
held-if n e t =
    let p = and_parts _ _ t in
    record { same = (bytes_eq-Decides (bytes_in e) (entry_of (body_in n e))).0 p.0; fit = fit-if n (body_in n e) p.1 }

held-decides : (n : ℕ) (es : List Entry) → Decides (are_held n es) (AllByRecursion (λ e. is_held n e ≡ true) es)
held-decides n = Decides-by_and (is_held n) (λ e. is_held n e ≡ true) (are_held n) (λ e. (λ t. t, λ t. t)) refl (λ _ _. refl)

pub held-push : (n : ℕ) (es : List Entry) (e : Entry) → are_held n es ≡ true → is_held n e ≡ true → are_held n (es ++ e ∷ []) ≡ true
held-push n es e h t = (held-decides n (es ++ e ∷ [])).1 (All-push (λ x. is_held n x ≡ true) es e ((held-decides n es).0 h) t)

pub held_all : (n : ℕ) (es : List Entry) → are_held n es ≡ true → AllByRecursion (λ e. is_held n e ≡ true) es
held_all n es h = (held-decides n es).0 h

fit_all : (n : ℕ) (es : List Entry) → AllByRecursion (λ e. is_held n e ≡ true) es → AllByRecursion (Fit n) (map (body_in n) es)
fit_all n [] h = tt
fit_all n (e ∷ es) h = ((held-if n e h.0).fit, fit_all n es h.1)

-- bodies that may stand one behind the other are sound, and sound ones may

pub stand-if-sound : (n : ℕ) (earlier later : List BodyOrder) → Sound n (earlier ++ later) → may_stand n earlier later ≡ true
stand-if-sound n earlier [] s = refl
stand-if-sound n earlier (b ∷ later) s =
    and_from _ _ ((next-decides n earlier b).1 (next_of n earlier b later s).1)
    (stand-if-sound n (earlier ++ b ∷ []) later (rw (append_assoc earlier (b ∷ []) later) s))

sound-if-stand : (n : ℕ) (earlier later : List BodyOrder) → Sound n earlier → AllByRecursion (Fit n) later → length earlier + length later ≤ 32
    → may_stand n earlier later ≡ true → Sound n (earlier ++ later)
sound-if-stand n earlier [] s f few t = rw (append-nil earlier) s
sound-if-stand n earlier (b ∷ later) s f few t =
    let p = and_parts _ _ t in
    let pushed = length_push earlier b in
    rw append_assoc at (sound-if-stand n (earlier ++ b ∷ []) later
    (sound-push n earlier b (omega arith) s f.0 ((next-decides n earlier b).0 p.0)) f.1 (omega arith) p.1)

-- what contents are
pub record Good (c : CipherKind) (es : List Entry) : Type 0 where
  pub some : 1 ≤ length es
  pub few : length es ≤ 32
  pub held : AllByRecursion (λ e. is_held (block_length c) e ≡ true) es
  pub many : length (bodies_in (block_length c) es) ≡ length es
  pub sound : Sound (block_length c) (bodies_in (block_length c) es)

pub good-if : (c : CipherKind) (es : List Entry) → is_contents c es ≡ true → Good c es
good-if c es t =
    let n = block_length c in
    let p = and_parts _ _ t in
    let q = and_parts _ _ p.1 in
    let r = and_parts _ _ q.1 in
    let few : length es ≤ 32 = leb-true (length es) 32 q.0 in
    let held = held_all n es r.0 in
    let long : length (bodies_in n es) ≡ length es = length-map es (body_in n) in
    record {
      some = leb-true 1 (length es) p.0;
      few = few;
      held = held;
      many = long;
      sound = sound-if-stand n [] (bodies_in n es) (sound_none n) (fit_all n es held) (omega arith) r.1;
    }

pub contents-if : (c : CipherKind) (es : List Entry) → 1 ≤ length es → length es ≤ 32 → are_held (block_length c) es ≡ true
    → Sound (block_length c) (bodies_in (block_length c) es) → is_contents c es ≡ true
contents-if c es some few held s =
    and_from _ _ (le-leb 1 (length es) some)
    (and_from _ _ (le-leb (length es) 32 few) (and_from _ _ held (stand-if-sound (block_length c) [] (bodies_in (block_length c) es) s)))

-- the entries of contents, as they are written, are those of their bodies
pub entries-same : (n : ℕ) (es : List Entry) → AllByRecursion (λ e. is_held n e ≡ true) es → flat_map bytes_in es ≡ flat_map entry_of (map (body_in n) es)
entries-same n [] h = refl
entries-same n (e ∷ es) h = ap₂ (λ (xs ys : List ℕ). xs ++ ys) (held-if n e h.0).same (entries-same n es h.1)
