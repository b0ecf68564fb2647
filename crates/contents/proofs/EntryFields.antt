-- The fields of an entry of 56 bytes, and what is read of them.
use Rattle.std.proofs.Common.{◌≡◌, ℕ, ◌-◌, ◌<◌, ◌≤◌, Bool, true, List, ◌∷◌, ◌++◌, length, get_or, take, drop, Some, Option, sym, ap, ◌∙◌, subst, ap₂, arith}
use Rattle.std.proofs.lemmas.List.{take-append-drop, take_rest, drop-drop}
use Rattle.std.proofs.lemmas.Bool.{eq-eqb, le-leb}
use Rattle.sheet_format.specs.Lines.{bind, given}
use Rattle.sheet_format.specs.Orders.{BodyOrder}
use Rattle.sheet_format.specs.declared.Mode.{Mode}
use Rattle.contents_format.specs.Layout.{start_length, four_bytes}
use Rattle.contents_format.specs.Reading.{mode_numbered, fields_hold, length_field, start_field, name_field, is_entry, body_at, entry_read}
use Rattle.contents_laws.proofs.Entries.{eight, four-back, mode-numbered}
use Rattle.contents.specs.Entries.{body_in, bytes_in}
use Rattle.contents.specs.declared.entry.Entry.{Entry}

-- what stands behind the first eight bytes
abbrev behind : List ℕ → List ℕ
behind e = take (length e - 8) (drop 8 e)

start-part : (e start : List ℕ) → start ≡ take 16 (behind e) → start ≡ start_field e
start-part e start p = p ∙ ap (take 16) (take_rest e 8)

name-part : (e name : List ℕ) → name ≡ drop 16 (behind e) → name ≡ name_field e
name-part e name p = p ∙ ap (drop 16) (take_rest e 8) ∙ drop-drop 16 8 e

module _ (n : ℕ) (e : List ℕ) (mode : Mode) (start name : List ℕ) (l : ℕ) (m : Some mode ≡ mode_numbered (get_or e 0 0))
    (front : start ≡ take 16 (behind e)) (back : name ≡ drop 16 (behind e)) (sl : l ≡ start_length mode n) where
  holds-so : (t : Bool) → t ≡ fields_hold start l name (get_or e 1 0) → fields_hold (start_field e) (start_length mode n) (name_field e) (get_or e 1 0) ≡ t
  holds-so t h =
      let s = start-part e start front in
      let k = name-part e name back in
      sym (h ∙ ap₂ (λ (xs ys : List ℕ). fields_hold xs l ys (get_or e 1 0)) s k
      ∙ ap (λ (i : ℕ). fields_hold (start_field e) i (name_field e) (get_or e 1 0)) sl)

  abbrev entry : ℕ → Entry
  entry len = record { mode = mode; length = len; start = start; name_length = get_or e 1 0; name = name }

  pub entry-accepted : (len : ℕ) → len ≡ length_field e → len ≤ 1048576 → get_or e 2 0 ≡ 0 → get_or e 3 0 ≡ 0 → get_or e 1 0 ≤ 32
      → true ≡ fields_hold start l name (get_or e 1 0) → Some (body_in n (entry len)) ≡ entry_read n e
  entry-accepted len is few y z k h =
      let f = holds-so true h in
      let s = start-part e start front in
      let w = name-part e name back in
      let limit : length_field e ≤ 1048576 = subst (λ (x : ℕ). x ≤ 1048576) is few in
      let t : is_entry n mode e ≡ true =
      rw (eq-eqb (get_or e 2 0) 0 y, eq-eqb (get_or e 3 0) 0 z, le-leb (length_field e) 1048576 limit, le-leb (get_or e 1 0) 32 k) f in
      let b : body_in n (entry len) ≡ body_at n mode e =
      ap₂ (λ (xs ys : List ℕ). record { mode = mode; start = take (start_length mode n) xs; len = len; name = take (get_or e 1 0) ys }) s w
      ∙ ap (λ (x : ℕ). record { mode = mode; start = take (start_length mode n) (start_field e); len = x; name = take (get_or e 1 0) (name_field e) }) is in
      sym (ap (λ (o : Option Mode). bind o (λ x. given (is_entry n x e) (Some (body_at n x e)))) (sym m)
      ∙ ap (λ (q : Bool). given q (Some (body_at n mode e))) t ∙ ap (λ (x : BodyOrder). Some x) (sym b))

  pub entry-same : (len : ℕ) → len ≡ length_field e → length e ≡ 56 → ((i : ℕ) → get_or e i 0 < 256) → get_or e 2 0 ≡ 0 → get_or e 3 0 ≡ 0
      → bytes_in (entry len) ≡ e
  entry-same len is long small y z =
      let s = start-part e start front in
      let w = name-part e name back in
      let first = mode-numbered (get_or e 0 0) mode (sym m) in
      let four = ap (λ (x : ℕ). four_bytes x) is ∙ sym (four-back (get_or e 4 0) (get_or e 5 0) (get_or e 6 0) (get_or e 7 0) (small 4) (small 5) (small 6) (small 7)) in
      let fields : start ++ name ≡ drop 8 e = ap₂ (λ (xs ys : List ℕ). xs ++ ys) s (w ∙ sym (drop-drop 16 8 e)) ∙ take-append-drop 16 (drop 8 e) in
      ap₂ ◌∷◌ (sym first) (ap (λ (xs : List ℕ). get_or e 1 0 ∷ xs) (ap₂ ◌∷◌ (sym y) (ap₂ ◌∷◌ (sym z) (ap₂ (λ (xs ys : List ℕ). xs ++ ys) four fields))))
      ∙ sym (eight e (omega arith))
