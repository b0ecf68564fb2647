-- An entry: what is read of its bytes is the one body whose entry they are.
use Rattle.std.proofs.Common.{◌≡◌, ℕ, zero, suc, ◌+◌, ◌-◌, ◌*◌, ◌/◌, ◌%◌, ◌<◌, ◌≤◌, true, false, eqb, List, [], ◌∷◌, ◌++◌, length, get_or, take, drop, replicate, Some, sym, refl, ap, ◌∙◌, subst, ap₂, ⊎_elim, arith, length-append, length-drop}
use lib.ListN.{length-replicate}
use Rattle.std.proofs.ByRecursion.{All-get_or, All-take, All-drop}
use Rattle.std.proofs.lemmas.List.{length-take-le, take-append-drop, take_at, drop_at, drop-drop}
use Rattle.std.proofs.lemmas.Bool.{cases_Bool, and_parts, eqb-true, leb-true, le-leb}
use Rattle.sheet_format.specs.Lines.{is_name}
use Rattle.sheet_format.specs.Orders.{BodyOrder}
use Rattle.sheet_format.specs.Sizes.{block_length}
use Rattle.sheet_format.specs.declared.CipherKind.{CipherKind}
use Rattle.sheet_format.specs.declared.CipherKind.TheVariants.{Kuznyechik, Magma}
use Rattle.sheet_format.specs.declared.Mode.{Mode}
use Rattle.sheet_format.specs.declared.Mode.TheVariants.{Ctr, Cbc}
use Rattle.sheet_laws.proofs.Forms.{bind-some, given-some, some_same}
use Rattle.contents_format.specs.Layout.{start_length, mode_number, four_bytes, filled, entry_of}
use Rattle.contents_format.specs.Reading.{mode_numbered, all_zero, length_field, start_field, name_field, body_at, is_entry, entry_read}
use Rattle.contents_laws.proofs.Digits.{Bytes}
use Rattle.contents_laws.proofs.Sound.{Fit, name-short}

-- Zeros that fill up.

zeros_of : (xs : List ℕ) → all_zero xs ≡ true → xs ≡ replicate (length xs) 0
zeros_of [] e = refl
zeros_of (x ∷ xs) e = let p = and_parts (eqb x 0) (all_zero xs) e in ap₂ ◌∷◌ (eqb-true x 0 p.0) (zeros_of xs p.1)

pub all-zeros : (k : ℕ) → all_zero (replicate k 0) ≡ true
all-zeros zero = refl
all-zeros (suc k) = all-zeros k

-- a field whose bytes from i on are zeros is its front, filled up
pub filled-front : (k i : ℕ) (xs : List ℕ) → length xs ≡ k → i ≤ k → all_zero (drop i xs) ≡ true → filled k (take i xs) ≡ xs
filled-front k i xs n h z =
    let front : length (take i xs) ≡ i = length-take-le i xs (omega arith) in
    let rest : length (drop i xs) ≡ k - i = length-drop i xs ∙ ap (λ (m : ℕ). m - i) n in
    ap (λ (m : ℕ). take i xs ++ replicate (k - m) 0) front
    ∙ ap (λ (m : ℕ). take i xs ++ replicate m 0) (sym rest)
    ∙ ap (λ (ys : List ℕ). take i xs ++ ys) (sym (zeros_of (drop i xs) z))
    ∙ take-append-drop i xs

pub length-filled : (k : ℕ) (xs : List ℕ) → length xs ≤ k → length (filled k xs) ≡ k
length-filled k xs h = omega (arith, length-append xs (replicate (k - length xs) 0), length-replicate {A = ℕ} (k - length xs) 0)

-- The first eight bytes.

pub eight : (e : List ℕ) → 8 ≤ length e
    → e ≡ get_or e 0 0 ∷ get_or e 1 0 ∷ get_or e 2 0 ∷ get_or e 3 0 ∷ get_or e 4 0 ∷ get_or e 5 0 ∷ get_or e 6 0 ∷ get_or e 7 0 ∷ drop 8 e
eight [] h = absurd (let f : ⊥ = omega arith in f)
eight (a ∷ []) h = absurd (let f : ⊥ = omega arith in f)
eight (a ∷ b ∷ []) h = absurd (let f : ⊥ = omega arith in f)
eight (a ∷ b ∷ c ∷ []) h = absurd (let f : ⊥ = omega arith in f)
eight (a ∷ b ∷ c ∷ d ∷ []) h = absurd (let f : ⊥ = omega arith in f)
eight (a ∷ b ∷ c ∷ d ∷ i ∷ []) h = absurd (let f : ⊥ = omega arith in f)
eight (a ∷ b ∷ c ∷ d ∷ i ∷ j ∷ []) h = absurd (let f : ⊥ = omega arith in f)
eight (a ∷ b ∷ c ∷ d ∷ i ∷ j ∷ k ∷ []) h = absurd (let f : ⊥ = omega arith in f)
eight (a ∷ b ∷ c ∷ d ∷ i ∷ j ∷ k ∷ l ∷ rest) h = refl

-- four bytes and the number that they are

pub four-back : (a b c d : ℕ) → a < 256 → b < 256 → c < 256 → d < 256
    → a ∷ b ∷ c ∷ d ∷ [] ≡ four_bytes (a * 16777216 + b * 65536 + c * 256 + d)
four-back a b c d p q r s =
    let x : ℕ = a * 16777216 + b * 65536 + c * 256 + d in
    let e₁ : a ≡ (a * 16777216 + b * 65536 + c * 256 + d) / 16777216 % 256 = omega arith in
    let e₂ : b ≡ (a * 16777216 + b * 65536 + c * 256 + d) / 65536 % 256 = omega arith in
    let e₃ : c ≡ (a * 16777216 + b * 65536 + c * 256 + d) / 256 % 256 = omega arith in
    let e₄ : d ≡ (a * 16777216 + b * 65536 + c * 256 + d) % 256 = omega arith in
    ap₂ ◌∷◌ e₁ (ap₂ ◌∷◌ e₂ (ap₂ ◌∷◌ e₃ (ap₂ ◌∷◌ e₄ refl)))

four-number : (x : ℕ) → x ≤ 1048576
    → x / 16777216 % 256 * 16777216 + x / 65536 % 256 * 65536 + x / 256 % 256 * 256 + x % 256 ≡ x
four-number x h = omega arith

pub mode-numbered : (x : ℕ) (mode : Mode) → mode_numbered x ≡ Some mode → x ≡ mode_number mode
mode-numbered x mode e =
    ⊎_elim
    (λ (t : eqb x 1 ≡ true).
    let s : Some Ctr ≡ Some mode = rw t at e in
    eqb-true x 1 t ∙ ap mode_number (some_same s))
    (λ (t : eqb x 1 ≡ false).
    let g = given-some (eqb x 2) (Some Cbc) mode (rw t at e) in
    eqb-true x 2 g.0 ∙ ap mode_number (some_same g.1))
    (cases_Bool (eqb x 1))

numbered-mode : (mode : Mode) → mode_numbered (mode_number mode) ≡ Some mode
numbered-mode Ctr = refl
numbered-mode Cbc = refl

pub start-room : (mode : Mode) (c : CipherKind) → start_length mode (block_length c) ≤ 16
start-room Ctr Kuznyechik = omega arith
start-room Ctr Magma = omega arith
start-room Cbc Kuznyechik = omega arith
start-room Cbc Magma = omega arith

-- the tests of an entry, as facts
record Tested (n : ℕ) (mode : Mode) (e : List ℕ) : Type 0 where
  third : get_or e 2 0 ≡ 0
  fourth : get_or e 3 0 ≡ 0
  limit : length_field e ≤ 1048576
  few : get_or e 1 0 ≤ 32
  named : is_name (take (get_or e 1 0) (name_field e)) ≡ true
  starts : all_zero (drop (start_length mode n) (start_field e)) ≡ true
  names : all_zero (drop (get_or e 1 0) (name_field e)) ≡ true

tested : (n : ℕ) (mode : Mode) (e : List ℕ) → is_entry n mode e ≡ true → Tested n mode e
tested n mode e h =
    let p₁ = and_parts _ _ h in
    let p₂ = and_parts _ _ p₁.1 in
    let p₃ = and_parts _ _ p₂.1 in
    let p₄ = and_parts _ _ p₃.1 in
    let p₅ = and_parts _ _ p₄.1 in
    let p₆ = and_parts _ _ p₅.1 in
    record {
      third = eqb-true (get_or e 2 0) 0 p₁.0;
      fourth = eqb-true (get_or e 3 0) 0 p₂.0;
      limit = leb-true (length_field e) 1048576 p₃.0;
      few = leb-true (get_or e 1 0) 32 p₄.0;
      named = p₅.0;
      starts = p₆.0;
      names = p₆.1;
    }

-- the fields behind the first eight bytes
fields-joined : (e : List ℕ) → length e ≡ 56 → (drop 8 e ≡ start_field e ++ name_field e) × (length (start_field e) ≡ 16) × (length (name_field e) ≡ 32)
fields-joined e h =
    let rest : length (drop 8 e) ≡ 48 = length-drop 8 e ∙ ap (λ (m : ℕ). m - 8) h in
    let last : length (drop 24 e) ≡ 32 = length-drop 24 e ∙ ap (λ (m : ℕ). m - 24) h in (
      sym (take-append-drop 16 (drop 8 e)) ∙ ap (λ (ys : List ℕ). start_field e ++ ys) (drop-drop 16 8 e),
      length-take-le 16 (drop 8 e) (omega arith),
      last,
    )

module _ (c : CipherKind) where
  pub entry_found : (e : List ℕ) (b : BodyOrder) → length e ≡ 56 → Bytes e → entry_read (block_length c) e ≡ Some b → (e ≡ entry_of b) × Fit (block_length c) b
  entry_found e b long bytes h =
      let n = block_length c in
      let m = bind-some (mode_numbered (get_or e 0 0)) _ b h in
      let mode = m.0 in
      let g = given-some (is_entry n mode e) (Some (body_at n mode e)) b m.2 in
      let t = tested n mode e g.0 in
      let parts = fields-joined e long in
      let nl = get_or e 1 0 in
      let sl = start_length mode n in
      let first = mode-numbered (get_or e 0 0) mode m.1 in
      let at : (i : ℕ) → i < length e → get_or e i 0 < 256 = λ i k. All-get_or (λ x. x < 256) e i 0 k bytes in
      let second : nl ≡ length (take nl (name_field e)) = sym (length-take-le nl (name_field e) (rw parts.2 t.few)) in
      let four = four-back (get_or e 4 0) (get_or e 5 0) (get_or e 6 0) (get_or e 7 0) (at 4 (omega arith)) (at 5 (omega arith)) (at 6 (omega arith)) (at 7 (omega arith)) in
      let start = filled-front 16 sl (start_field e) parts.1 (start-room mode c) t.starts in
      let name = filled-front 32 nl (name_field e) parts.2 t.few t.names in
      let fields : drop 8 e ≡ filled 16 (take sl (start_field e)) ++ filled 32 (take nl (name_field e)) = parts.0 ∙ ap₂ ◌++◌ (sym start) (sym name) in
      let same : body_at n mode e ≡ b = some_same g.1 in
      let whole : e ≡ entry_of (body_at n mode e) =
      eight e (omega arith)
      ∙ ap₂ ◌∷◌ first (ap₂ ◌∷◌ second (ap₂ ◌∷◌ t.third (ap₂ ◌∷◌ t.fourth
      (ap₂ (λ (xs ys : List ℕ). xs ++ ys) four fields)))) in
      let f : Fit n (body_at n mode e) = record {
        limit = t.limit;
        long = length-take-le sl (start_field e) (rw parts.1 (start-room mode c));
        bytes = All-take (λ x. x < 256) sl (start_field e) (All-take (λ x. x < 256) 16 (drop 8 e) (All-drop (λ x. x < 256) 8 e bytes));
        named = t.named;
      } in
      (whole ∙ ap entry_of same, subst (Fit n) same f)

  pub length-entry : (b : BodyOrder) → Fit (block_length c) b → length (entry_of b) ≡ 56
  length-entry b f =
      let start = length-filled 16 b.start (rw f.long (start-room b.mode c)) in
      let name = length-filled 32 b.name (name-short b.name f.named) in
      omega (arith, length-append (filled 16 b.start) (filled 32 b.name), start, name)

  pub entry-made : (b : BodyOrder) → Fit (block_length c) b → entry_read (block_length c) (entry_of b) ≡ Some b
  entry-made b f =
      let n = block_length c in
      let start = filled 16 b.start in
      let name = filled 32 b.name in
      let zeros₁ = replicate {A = ℕ} (16 - length b.start) 0 in
      let zeros₂ = replicate {A = ℕ} (32 - length b.name) 0 in
      let sl = start_length b.mode n in
      let short = name-short b.name f.named in
      let long₁ : length start ≡ 16 = length-filled 16 b.start (rw f.long (start-room b.mode c)) in
      rw (
        numbered-mode b.mode,
        take_at start name 16 long₁,
        drop_at start name 16 long₁,
        four-number b.len f.limit,
        le-leb b.len 1048576 f.limit,
        le-leb (length b.name) 32 short,
        take_at b.name zeros₂ (length b.name) refl,
        f.named,
        drop_at b.start zeros₁ sl f.long,
        all-zeros (16 - length b.start),
        drop_at b.name zeros₂ (length b.name) refl,
        all-zeros (32 - length b.name),
        take_at b.start zeros₁ sl f.long,
      )
