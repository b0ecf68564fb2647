-- A sheet for sound bodies: one cipher line, and a line for each body. It passes, and orders them.
use Rattle.std.proofs.Common.{◌≡◌, ℕ, ◌+◌, ◌*◌, ◌<◌, ◌≤◌, true, false, leb, List, [], ◌∷◌, ◌++◌, map, length, codes, decimal, sym, refl, ap, ◌∙◌, subst, ap₂, inl, inr, ⊎_elim, arith, length-append}
use lib.ListN.{length-map}
use Rattle.std.specs.List.{flat_map, AllByRecursion}
use Rattle.std.proofs.ByRecursion.{All-append, All-map, All-weaker}
use Rattle.std.proofs.lemmas.Bool.{cases_lt, and_parts, leb-true, lt-ltb, le-ltb}
use Rattle.hex_digits.specs.Hex.{hex_value, is_hex_digit, all_hex_digits, hex_bytes}
use Rattle.sheet_format.specs.Digits.{is_decimal_digit}
use Rattle.sheet_format.specs.Lines.{Body, Form, cipher, body, is_start, is_graphic}
use Rattle.sheet_format.specs.Orders.{BodyOrder, ordered}
use Rattle.sheet_format.specs.Sizes.{block_length, start_digits}
use Rattle.sheet_format.specs.declared.CipherKind.{CipherKind}
use Rattle.sheet_format.specs.declared.CipherKind.TheVariants.{Kuznyechik, Magma}
use Rattle.sheet_format.specs.declared.Mode.{Mode}
use Rattle.sheet_format.specs.declared.Mode.TheVariants.{Ctr, Cbc}
use Rattle.sheet_laws.specs.Grammar.{HasForm, body_text, cipher_word, mode_word, spaced}
use Rattle.sheet_laws.specs.Meets.{Allowed}
use Rattle.sheet_laws.specs.Passes as passes
use Rattle.sheet_laws.specs.Passes.{Passes, NoTwo, counting}
use Rattle.sheet_laws.proofs.Forms.{start-digits, decimal-digits, name-bytes, mode-graphic, cipher-graphic}
use Rattle.contents_laws.proofs.Digits.{hex_digit, hex_text, bytes-of-text, digits-of-text, length-text, decimal-read, decimal-short, digit-of-value, some-value}
use Rattle.contents_laws.proofs.Ordered.{two_digits, no_two-map}
use Rattle.contents_laws.proofs.Sound.{Fit, Sound, SameName, SameStart, name-short}

-- a body as its line has it
abbrev line_of : BodyOrder → Body
line_of b = record { mode = b.mode; start = hex_text b.start; len = record { value = b.len; padded = false }; name = b.name }

abbrev text_of : BodyOrder → List ℕ
text_of b = body_text (line_of b) (decimal b.len)

abbrev body_line : BodyOrder → List ℕ × Form
body_line b = (text_of b, body (line_of b))

abbrev cipher_line : CipherKind → List ℕ × Form
cipher_line c = (spaced (codes "c") (cipher_word c), cipher c)

abbrev lines_for : CipherKind → List BodyOrder → List (List ℕ × Form)
lines_for c bs = cipher_line c ∷ map body_line bs

abbrev ended_text : List ℕ × Form → List ℕ
ended_text p = p.0 ++ 10 ∷ []

abbrev sheet_for : CipherKind → List BodyOrder → List ℕ
sheet_for c bs = flat_map ended_text (lines_for c bs)

-- what is written of a body orders it
ordered-line : (n : ℕ) (b : BodyOrder) → Fit n b → ordered (line_of b) ≡ b
ordered-line n b f =
    ap (λ (s : List ℕ). record { mode = b.mode; start = s; len = b.len; name = b.name }) (bytes-of-text b.start f.bytes)

ordered-lines : (n : ℕ) (bs : List BodyOrder) → AllByRecursion (Fit n) bs → bs ≡ map ordered (map line_of bs)
ordered-lines n [] h = refl
ordered-lines n (b ∷ bs) h = ap₂ ◌∷◌ (sym (ordered-line n b h.0)) (ordered-lines n bs h.1)

counted-lines : (bs : List BodyOrder) → flat_map counting (map (λ p. p.1) (map body_line bs)) ≡ map body (map line_of bs)
counted-lines [] = refl
counted-lines (b ∷ bs) = ap (λ (fs : List Form). body (line_of b) ∷ fs) (counted-lines bs)

-- START has a digit
some-digits : (c : CipherKind) (b : BodyOrder) → Fit (block_length c) b → length (hex_text b.start) ≡ start_digits b.mode (block_length c)
some-digits c b f = length-text b.start ∙ ap (λ (k : ℕ). 2 * k) f.long ∙ sym (two_digits b.mode c)

start-if : (xs : List ℕ) → 0 < length xs → all_hex_digits xs ≡ true → is_start xs ≡ true
start-if [] h e = absurd (let f : ⊥ = omega arith in f)
start-if (x ∷ xs) h e = e

some-start : (mode : Mode) (c : CipherKind) → (0 < start_digits mode (block_length c)) × (start_digits mode (block_length c) ≤ 32)
some-start Ctr Kuznyechik = (omega arith, omega arith)
some-start Ctr Magma = (omega arith, omega arith)
some-start Cbc Kuznyechik = (omega arith, omega arith)
some-start Cbc Magma = (omega arith, omega arith)

is-start : (c : CipherKind) (b : BodyOrder) → Fit (block_length c) b → is_start (hex_text b.start) ≡ true
is-start c b f =
    let n = some-digits c b f in
    let s = (some-start b.mode c).0 in
    start-if (hex_text b.start) (rw n s) (digits-of-text b.start f.bytes)

line-has-form : (c : CipherKind) (b : BodyOrder) → Fit (block_length c) b → HasForm (text_of b) (body (line_of b))
line-has-form c b f = (decimal b.len, refl, is-start c b f, decimal-read b.len f.limit, f.named)

lines-have-forms : (c : CipherKind) (bs : List BodyOrder) → AllByRecursion (Fit (block_length c)) bs → AllByRecursion (λ p. HasForm p.0 p.1) (map body_line bs)
lines-have-forms c [] h = tt
lines-have-forms c (b ∷ bs) h = (line-has-form c b h.0, lines-have-forms c bs h.1)

-- The bytes of the sheet.

graphic-allowed : (x : ℕ) → is_graphic x ≡ true → Allowed x
graphic-allowed x e =
    let p = and_parts (leb 33 x) (leb x 126) e in
    let low : 33 ≤ x = leb-true 33 x p.0 in
    let high : x ≤ 126 = leb-true x 126 p.1 in
    inr (omega arith, high)

decimal-allowed : (x : ℕ) → is_decimal_digit x ≡ true → Allowed x
decimal-allowed x e =
    let p = and_parts (leb 48 x) (leb x 57) e in
    let low : 48 ≤ x = leb-true 48 x p.0 in
    let high : x ≤ 57 = leb-true x 57 p.1 in
    inr (omega arith, omega arith)

digit-range : (d : ℕ) → d < 16 → (32 ≤ hex_digit d) × (hex_digit d ≤ 126)
digit-range d h =
    ⊎_elim
    (λ (t : d < 10). rw (lt-ltb d 10 t) (omega arith, omega arith))
    (λ (t : 10 ≤ d). rw (le-ltb d 10 t) (omega arith, omega arith))
    (cases_lt d 10)

hex-allowed : (x : ℕ) → is_hex_digit x ≡ true → Allowed x
hex-allowed x e =
    let v = some-value (hex_value x) e in
    let d = digit-of-value x v.0 v.1 in
    inr (subst (λ (y : ℕ). (32 ≤ y) × (y ≤ 126)) d.1 (digit-range v.0 d.0))

spaced-allowed : (word rest : List ℕ) → AllByRecursion Allowed word → AllByRecursion Allowed rest → AllByRecursion Allowed (spaced word rest)
spaced-allowed word rest w r = All-append Allowed word (32 ∷ rest) w (inr (omega arith, omega arith), r)

text-allowed : (c : CipherKind) (b : BodyOrder) → Fit (block_length c) b → AllByRecursion Allowed (text_of b)
text-allowed c b f =
    let m = All-weaker (λ x. is_graphic x ≡ true) Allowed graphic-allowed (mode_word b.mode) (mode-graphic b.mode) in
    let s = All-weaker (λ x. is_hex_digit x ≡ true) Allowed hex-allowed (hex_text b.start) (start-digits (hex_text b.start) (is-start c b f)) in
    let d = All-weaker (λ x. is_decimal_digit x ≡ true) Allowed decimal-allowed (decimal b.len)
    (decimal-digits (decimal b.len) (record { value = b.len; padded = false }) (decimal-read b.len f.limit)) in
    let n = All-weaker (λ x. is_graphic x ≡ true) Allowed graphic-allowed b.name (name-bytes b.name f.named) in
    spaced-allowed (codes "b") _ (inr (omega arith, omega arith), tt)
    (spaced-allowed (mode_word b.mode) _ m (spaced-allowed (hex_text b.start) _ s (spaced-allowed (decimal b.len) b.name d n)))

ended-allowed : (text : List ℕ) → AllByRecursion Allowed text → AllByRecursion Allowed (text ++ 10 ∷ [])
ended-allowed text h = All-append Allowed text (10 ∷ []) h (inl refl, tt)

bodies-allowed : (c : CipherKind) (bs : List BodyOrder) → AllByRecursion (Fit (block_length c)) bs → AllByRecursion Allowed (flat_map ended_text (map body_line bs))
bodies-allowed c [] h = tt
bodies-allowed c (b ∷ bs) h =
    All-append Allowed (text_of b ++ 10 ∷ []) (flat_map ended_text (map body_line bs)) (ended-allowed (text_of b) (text-allowed c b h.0))
    (bodies-allowed c bs h.1)

cipher-allowed : (c : CipherKind) → AllByRecursion Allowed (ended_text (cipher_line c))
cipher-allowed c =
    ended-allowed (spaced (codes "c") (cipher_word c))
    (spaced-allowed (codes "c") (cipher_word c) (inr (omega arith, omega arith), tt)
    (All-weaker (λ x. is_graphic x ≡ true) Allowed graphic-allowed (cipher_word c) (cipher-graphic c)))

-- Its length.

length-spaced : (word rest : List ℕ) → length (spaced word rest) ≡ length word + length rest + 1
length-spaced word rest = omega (arith, length-append word (32 ∷ rest))

length-mode : (mode : Mode) → length (mode_word mode) ≡ 3
length-mode Ctr = refl
length-mode Cbc = refl

line-short : (c : CipherKind) (b : BodyOrder) → Fit (block_length c) b → length (ended_text (body_line b)) ≤ 80
line-short c b f =
    let text₁ : List ℕ = spaced (decimal b.len) b.name in
    let text₂ : List ℕ = spaced (hex_text b.start) text₁ in
    let text₃ : List ℕ = spaced (mode_word b.mode) text₂ in
    omega (
      arith,
      length-append (text_of b) (10 ∷ []),
      length-spaced (codes "b") text₃,
      length-spaced (mode_word b.mode) text₂,
      length-mode b.mode,
      length-spaced (hex_text b.start) text₁,
      some-digits c b f,
      (some-start b.mode c).1,
      length-spaced (decimal b.len) b.name,
      decimal-short b.len f.limit,
      name-short b.name f.named,
    )

bodies-short : (c : CipherKind) (bs : List BodyOrder) → AllByRecursion (Fit (block_length c)) bs → length (flat_map ended_text (map body_line bs)) ≤ 80 * length bs
bodies-short c [] h = omega arith
bodies-short c (b ∷ bs) h =
    omega (arith, length-append (ended_text (body_line b)) (flat_map ended_text (map body_line bs)), line-short c b h.0, bodies-short c bs h.1)

cipher-short : (c : CipherKind) → length (ended_text (cipher_line c)) ≤ 8
cipher-short Kuznyechik = omega arith
cipher-short Magma = omega arith

pub passes-if-sound : (c : CipherKind) (bs : List BodyOrder) → Sound (block_length c) bs → 1 ≤ length bs
    → Passes (sheet_for c bs) (record { cipher = c; bodies = bs })
passes-if-sound c bs s some = record {
  short = omega (arith, length-append (ended_text (cipher_line c)) (flat_map ended_text (map body_line bs)), cipher-short c, bodies-short c bs s.each, s.few);
  bytes = All-append Allowed (ended_text (cipher_line c)) (flat_map ended_text (map body_line bs)) (cipher-allowed c) (bodies-allowed c bs s.each);
  forms = map (λ p. p.1) (lines_for c bs);
  lines = (lines_for c bs, refl, (refl, lines-have-forms c bs s.each), refl);
  named = map line_of bs;
  counted = ap (λ (fs : List Form). cipher c ∷ fs) (counted-lines bs);
  bodies = ordered-lines (block_length c) bs s.each;
  some = rw (length-map bs line_of) some;
  few = rw (length-map bs line_of) s.few;
  lengths = All-map (λ b. (b.len.value ≤ 1048576) × (b.len.padded ≡ false)) line_of bs
      (All-weaker (Fit (block_length c)) (λ b. (b.len ≤ 1048576) × (false ≡ false)) (λ b f. (f.limit, refl)) bs s.each);
  digits = All-map (λ b. length b.start ≡ start_digits b.mode (block_length c)) line_of bs
      (All-weaker (Fit (block_length c)) (λ b. length (hex_text b.start) ≡ start_digits b.mode (block_length c)) (some-digits c) bs s.each);
  names = no_two-map line_of (Fit (block_length c)) SameName passes.SameName (λ x y gx gy q. q) bs s.each s.names;
  starts = no_two-map line_of (Fit (block_length c)) SameStart passes.SameCtrStart
      (λ x y gx gy q. (q.0, q.1, sym (bytes-of-text x.start gx.bytes) ∙ ap hex_bytes q.2 ∙ bytes-of-text y.start gy.bytes)) bs s.each s.starts;
  blocks = s.blocks;
}
