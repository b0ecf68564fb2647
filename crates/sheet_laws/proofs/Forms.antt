-- A line's text reads as a form exactly where it has that form.
use Rattle.std.proofs.Common.{◌≡◌, ℕ, ◌+◌, ◌-◌, ◌*◌, Bool, true, false, cond, eqb, leb, ◌⊎◌, List, [], ◌∷◌, length, Some, None, codes, Option, sym, refl, ap, ◌∙◌, subst, ap₂, inl, inr, ⊎_elim, arith}
use Rattle.std.proofs.ByRecursion.{All-append, Decides-by_and}
use Rattle.std.proofs.lemmas.Slice.Eq.{bytes_eq-Decides}
use Rattle.std.proofs.lemmas.Bool.{cases_Bool, eqb-true, and_parts}
use Rattle.std.specs.Option.{option_map}
use Rattle.std.specs.List.{AllByRecursion}
use Rattle.std.specs.Str.{bytes_eq}
use Rattle.hex_digits.specs.Hex.{is_hex_digit, all_hex_digits}
use Rattle.sheet_format.specs.Digits.{is_decimal_digit, decimal_from, written, decimal_of}
use Rattle.sheet_format.specs.Lines.{Body, Form, blank, comment, cipher, body, bind, given, cut_of, mode_of, is_start, is_graphic, all_graphic, is_name, fields_of, body_of, cipher_of, form_of}
use Rattle.sheet_format.specs.declared.CipherKind.{CipherKind}
use Rattle.sheet_format.specs.declared.CipherKind.TheVariants.{Kuznyechik, Magma}
use Rattle.sheet_format.specs.declared.Decimal.{Decimal}
use Rattle.sheet_format.specs.declared.Mode.{Mode}
use Rattle.sheet_format.specs.declared.Mode.TheVariants.{Ctr, Cbc}
use Rattle.sheet_laws.specs.Grammar.{cipher_word, mode_word, spaced, Lacks, HasForm, NoFormFits}
use Rattle.sheet_laws.proofs.Clash.{clash}
use Rattle.sheet_laws.proofs.Cuts.{lacks-failing, cut-found, cut-made}

-- What a value that was found tells of the steps that found it.

pub some_same : {A : Type 0} {x y : A} → Some x ≡ Some y → x ≡ y
some_same e = cc

pub bind-some : {A B : Type 0} (o : Option A) (f : A → Option B) (y : B) → bind o f ≡ Some y → (x : A) × (o ≡ Some x) × (f x ≡ Some y)
bind-some None f y e = clash (cc)
bind-some (Some x) f y e = (x, refl, e)

pub given-some : {A : Type 0} (t : Bool) (o : Option A) (y : A) → given t o ≡ Some y → (t ≡ true) × (o ≡ Some y)
given-some true o y e = (refl, e)
given-some false o y e = clash (cc)

mapped-some : {A B : Type 0} (f : A → B) (o : Option A) (y : B) → option_map f o ≡ Some y → (x : A) × (o ≡ Some x) × (f x ≡ y)
mapped-some f None y e = clash (cc)
mapped-some f (Some x) y e = (x, refl, some_same e)

-- The bytes that the fields of a body line can have.

pub start-digits : (xs : List ℕ) → is_start xs ≡ true → AllByRecursion (λ x. is_hex_digit x ≡ true) xs
start-digits [] e = tt
start-digits (x ∷ xs) e =
    (Decides-by_and is_hex_digit (λ c. is_hex_digit c ≡ true) all_hex_digits (λ c. (λ t. t, λ t. t)) refl (λ c cs. refl) (x ∷ xs)).0 e

digits_from : (n : ℕ) (xs : List ℕ) (m : ℕ) → decimal_from n xs ≡ Some m → AllByRecursion (λ x. is_decimal_digit x ≡ true) xs
digits_from n [] m e = tt
digits_from n (x ∷ xs) m e =
    let g = given-some (is_decimal_digit x) (decimal_from (n * 10 + (x - 48)) xs) m e in
    (g.0, digits_from (n * 10 + (x - 48)) xs m g.1)

pub decimal-digits : (xs : List ℕ) (d : Decimal) → decimal_of xs ≡ Some d → AllByRecursion (λ x. is_decimal_digit x ≡ true) xs
decimal-digits [] d e = tt
decimal-digits (x ∷ xs) d e =
    let g = given-some (leb (length (x ∷ xs)) 7) (option_map (written (x ∷ xs)) (decimal_from 0 (x ∷ xs))) d e in
    let m = mapped-some (written (x ∷ xs)) (decimal_from 0 (x ∷ xs)) d g.1 in
    digits_from 0 (x ∷ xs) m.0 m.1

pub name-bytes : (xs : List ℕ) → is_name xs ≡ true → AllByRecursion (λ x. is_graphic x ≡ true) xs
name-bytes [] e = tt
name-bytes (x ∷ xs) e =
    (Decides-by_and is_graphic (λ c. is_graphic c ≡ true) all_graphic (λ c. (λ t. t, λ t. t)) refl (λ c cs. refl) (x ∷ xs)
    ).0 (and_parts (leb (length (x ∷ xs)) 32) (all_graphic (x ∷ xs)) e).1

-- The words for a mode and for a cipher.

one_of_two : {A : Type 0} (xs u v : List ℕ) (a b c : A)
    → cond (bytes_eq xs u) (Some a) (cond (bytes_eq xs v) (Some b) None) ≡ Some c → ((xs ≡ u) × (a ≡ c)) ⊎ ((xs ≡ v) × (b ≡ c))
one_of_two xs u v a b c e =
    ⊎_elim
    (λ (t : bytes_eq xs u ≡ true).
    inl ((bytes_eq-Decides xs u).0 t, some_same (rw t at e)))
    (λ (t : bytes_eq xs u ≡ false).
    let g = given-some (bytes_eq xs v) (Some b) c (rw t at e) in
    inr ((bytes_eq-Decides xs v).0 g.0, some_same g.1))
    (cases_Bool (bytes_eq xs u))

mode-found : (xs : List ℕ) (m : Mode) → mode_of xs ≡ Some m → xs ≡ mode_word m
mode-found xs m e =
    ⊎_elim
    (λ p. p.0 ∙ ap mode_word p.1)
    (λ p. p.0 ∙ ap mode_word p.1)
    (one_of_two xs (codes "ctr") (codes "cbc") Ctr Cbc m e)

mode-made : (m : Mode) → mode_of (mode_word m) ≡ Some m
mode-made Ctr = refl
mode-made Cbc = refl

cipher-found : (xs : List ℕ) (c : CipherKind) → cipher_of xs ≡ Some c → xs ≡ 32 ∷ cipher_word c
cipher-found xs c e =
    let after : CipherKind → List ℕ = λ k. 32 ∷ cipher_word k in
    ⊎_elim
    (λ p. p.0 ∙ ap after p.1)
    (λ p. p.0 ∙ ap after p.1)
    (one_of_two xs (codes " kuz") (codes " magma") Kuznyechik Magma c e)

cipher-made : (c : CipherKind) → cipher_of (32 ∷ cipher_word c) ≡ Some c
cipher-made Kuznyechik = refl
cipher-made Magma = refl

-- The fields of a body line.

-- the text behind a body line's letter and space
abbrev fields_text : Body → List ℕ → List ℕ
fields_text b digits = spaced (mode_word b.mode) (spaced b.start (spaced digits b.name))

abbrev HasFields : List ℕ → Body → Type 0
HasFields xs b =
    (digits : List ℕ) × (xs ≡ fields_text b digits)
    × (is_start b.start ≡ true) × (decimal_of digits ≡ Some b.len) × (is_name b.name ≡ true)

fields-joined : (xs m m' r st q digits name : List ℕ) → xs ≡ spaced m r → m ≡ m' → r ≡ spaced st q → q ≡ spaced digits name
    → xs ≡ spaced m' (spaced st (spaced digits name))
fields-joined xs m m' r st q digits name e₁ e₂ e₃ e₄ = cc

fields-found : (xs : List ℕ) (b : Body) → fields_of xs ≡ Some b → HasFields xs b
fields-found xs b e =
    let p = bind-some (cut_of 32 xs) _ b e in
    let m = bind-some (mode_of p.0.0) _ b p.2 in
    let q = bind-some (cut_of 32 p.0.1) _ b m.2 in
    let s = given-some (is_start q.0.0) _ b q.2 in
    let t = bind-some (cut_of 32 q.0.1) _ b s.1 in
    let n = bind-some (decimal_of t.0.0) _ b t.2 in
    let k = given-some (is_name t.0.1) _ b n.2 in
    let text = fields-joined xs p.0.0 (mode_word m.0) p.0.1 q.0.0 q.0.1 t.0.0 t.0.1
    (cut-found 32 xs p.0.0 p.0.1 p.1).0
    (mode-found p.0.0 m.0 m.1)
    (cut-found 32 p.0.1 q.0.0 q.0.1 q.1).0
    (cut-found 32 q.0.1 t.0.0 t.0.1 t.1).0 in
    subst (HasFields xs) (some_same k.1) (t.0.0, text, s.0, n.1, k.0)

pub mode-graphic : (m : Mode) → AllByRecursion (λ x. is_graphic x ≡ true) (mode_word m)
mode-graphic Ctr = (refl, (refl, (refl, tt)))
mode-graphic Cbc = (refl, (refl, (refl, tt)))

fields_made : (b : Body) (digits : List ℕ) → is_start b.start ≡ true → decimal_of digits ≡ Some b.len → is_name b.name ≡ true
    → fields_of (fields_text b digits) ≡ Some b
fields_made b digits s n k =
    rw (
      cut-made 32 (mode_word b.mode) (spaced b.start (spaced digits b.name)) (lacks-failing is_graphic 32 refl (mode_word b.mode) (mode-graphic b.mode)),
      mode-made b.mode,
      cut-made 32 b.start (spaced digits b.name) (lacks-failing is_hex_digit 32 refl b.start (start-digits b.start s)),
      s,
      cut-made 32 digits b.name (lacks-failing is_decimal_digit 32 refl digits (decimal-digits digits b.len n)),
      n,
      k,
    )

-- The forms.

body-found : (xs : List ℕ) (b : Body) → body_of xs ≡ Some b → HasForm (98 ∷ xs) (body b)
body-found [] b e = clash (cc)
body-found (x ∷ xs) b e =
    let g = given-some (eqb x 32) (fields_of xs) b e in
    let h = fields-found xs b g.1 in
    (h.0, ap₂ (λ (y : ℕ) (ys : List ℕ). 98 ∷ y ∷ ys) (eqb-true x 32 g.0) h.1, h.2, h.3, h.4)

-- behind a first letter that begins no comment
lettered-found : (x : ℕ) (xs : List ℕ) (f : Form)
    → cond (eqb x 99) (option_map cipher (cipher_of xs)) (cond (eqb x 98) (option_map body (body_of xs)) None) ≡ Some f → HasForm (x ∷ xs) f
lettered-found x xs f e =
    ⊎_elim
    (λ (t : eqb x 99 ≡ true).
    let c = mapped-some cipher (cipher_of xs) f (rw t at e) in
    subst (HasForm (x ∷ xs)) c.2 (ap₂ ◌∷◌ (eqb-true x 99 t) (cipher-found xs c.0 c.1)))
    (λ (t : eqb x 99 ≡ false).
    let g = given-some (eqb x 98) (option_map body (body_of xs)) f (rw t at e) in
    let b = mapped-some body (body_of xs) f g.1 in
    subst (HasForm (x ∷ xs)) b.2
    (subst (λ (y : ℕ). HasForm (y ∷ xs) (body b.0)) (sym (eqb-true x 98 g.0)) (body-found xs b.0 b.1)))
    (cases_Bool (eqb x 99))

pub form-found : (text : List ℕ) (f : Form) → Lacks 10 text → form_of text ≡ Some f → HasForm text f
form-found [] f h e = subst (HasForm []) (some_same e) refl
form-found (x ∷ xs) f h e =
    ⊎_elim
    (λ (t : eqb x 35 ≡ true).
    let g : Some comment ≡ Some f = rw t at e in
    subst (HasForm (x ∷ xs)) (some_same g) (xs, ap (λ (y : ℕ). y ∷ xs) (eqb-true x 35 t), h.1))
    (λ (t : eqb x 35 ≡ false). lettered-found x xs f (rw t at e))
    (cases_Bool (eqb x 35))

pub form-made : (text : List ℕ) (f : Form) → HasForm text f → form_of text ≡ Some f
form-made text blank h = ap form_of h
form-made text comment h = ap form_of h.1
form-made text (cipher c) h = ap form_of h ∙ ap (option_map cipher) (cipher-made c)
form-made text (body b) h = ap form_of h.1 ∙ ap (option_map body) (fields_made b h.0 h.2 h.3 h.4)

-- A text that has a form has no byte 10.

spaced-lacks : (word rest : List ℕ) → Lacks 10 word → Lacks 10 rest → Lacks 10 (spaced word rest)
spaced-lacks word rest w r = All-append (λ x. x ≡ 10 → ⊥) word (32 ∷ rest) w (λ e. omega arith, r)

pub cipher-graphic : (c : CipherKind) → AllByRecursion (λ x. is_graphic x ≡ true) (cipher_word c)
cipher-graphic Kuznyechik = (refl, (refl, (refl, tt)))
cipher-graphic Magma = (refl, (refl, (refl, (refl, (refl, tt)))))

pub form-lacks : (text : List ℕ) (f : Form) → HasForm text f → Lacks 10 text
form-lacks text blank h = subst (Lacks 10) (sym h) tt
form-lacks text comment h = subst (Lacks 10) (sym h.1) (λ e. omega arith, h.2)
form-lacks text (cipher c) h =
    subst (Lacks 10) (sym h)
    (spaced-lacks (codes "c") (cipher_word c) (λ e. omega arith, tt) (lacks-failing is_graphic 10 refl (cipher_word c) (cipher-graphic c)))
form-lacks text (body b) h =
    let m = lacks-failing is_graphic 10 refl (mode_word b.mode) (mode-graphic b.mode) in
    let s = lacks-failing is_hex_digit 10 refl b.start (start-digits b.start h.2) in
    let d = lacks-failing is_decimal_digit 10 refl h.0 (decimal-digits h.0 b.len h.3) in
    let n = lacks-failing is_graphic 10 refl b.name (name-bytes b.name h.4) in
    subst (Lacks 10) (sym h.1)
    (spaced-lacks (codes "b") (fields_text b h.0) (λ e. omega arith, tt)
    (spaced-lacks (mode_word b.mode) (spaced b.start (spaced h.0 b.name)) m
    (spaced-lacks b.start (spaced h.0 b.name) s (spaced-lacks h.0 b.name d n))))

no-form : (text : List ℕ) (o : Option Form) → Lacks 10 text → form_of text ≡ o → ((f : Form) → HasForm text f → ⊥) → form_of text ≡ None
no-form text None h e n = e
no-form text (Some f) h e n = absurd (n f (form-found text f h e))

pub no-form-fits : NoFormFits
no-form-fits text h = (
  λ e f k. let g = form-made text f k in clash (cc),
  no-form text (form_of text) h refl,
)
