-- The body lines of a sheet as entries.
use Rattle.std.proofs.Common.{◌≡◌, ℕ, ◌+◌, ◌-◌, ◌<◌, ◌≤◌, true, false, ltb, List, [], ◌∷◌, ◌++◌, map, length, take, replicate, Some, None, Ok, Err, Result, sym, refl, ap, ◌∙◌, subst, ap₂, ⊎_elim, append_assoc, arith}
use lib.ListN.{length-map}
use Rattle.std.specs.List.{flat_map, AllByRecursion}
use Rattle.std.proofs.lemmas.Slice.Eq.{bytes_eq-Decides}
use Rattle.std.proofs.lemmas.List.{length_push, map_push, take_at}
use Rattle.std.proofs.lemmas.Bool.{and_from, cases_Bool}
use Rattle.hex_digits.specs.Hex.{hex_bytes}
use Rattle.sheet_format.specs.Lines.{Body, Form, blank, comment, cipher, body, Line, lines_of}
use Rattle.sheet_format.specs.Orders.{BodyOrder, Order, ordered, body_named, checked_of, order_of, summary, map_ok}
use Rattle.sheet_format.specs.Orders as orders
use Rattle.sheet_format.specs.Sizes.{block_length}
use Rattle.sheet_format.specs.declared.Checked.{Checked}
use Rattle.sheet_format.specs.declared.CipherKind.{CipherKind}
use Rattle.sheet_format.specs.declared.SheetFault.{SheetFault}
use Rattle.sheet_format.specs.declared.SheetFault.TheVariants.{ShortWorkArea}
use Rattle.sheet_laws.specs.Passes.{Passes, counting}
use Rattle.sheet_laws.proofs.Clash.{clash}
use Rattle.sheet_laws.proofs.Passing.{orders-if-passes}
use Rattle.sheet_laws.proofs.Rows.{reads-written}
use Rattle.sheet_lines.specs.Models.{body_model, form_model, next_of, result_model, tail_of}
use Rattle.sheet_lines.specs.declared.line.BodyLine.{BodyLine}
use Rattle.sheet_lines.specs.declared.line.Line as line
use Rattle.sheet_lines.specs.declared.line.LineKind.{LineKind}
use Rattle.contents_format.specs.BlockLengths.{bytes_of as length_of}
use Rattle.contents_format.specs.Reading.{SetOrder, said_of}
use Rattle.contents_format.specs.declared.BlockLength.{BlockLength}
use Rattle.contents_format.specs.Layout.{entry_of, filled, four_bytes, mode_number, start_length}
use Rattle.contents_laws.specs.BodyLines.{FitLine, FitLines}
use Rattle.contents_laws.proofs.Ordered.{fit-ordered, kept-if-passes, sound-if-passes}
use Rattle.contents_laws.proofs.Sound.{Fit, Sound}
use Rattle.contents.specs.Entries.{are_held, body_in, bodies_in, bytes_in, is_contents, is_held}
use Rattle.contents.specs.Models.{ordered_by}
use Rattle.contents.specs.declared.entry.Entry.{Entry}
use Rattle.contents.proofs.Held.{contents-if, fit-test}

module _ (c : CipherKind) (b : Body) (start name : List ℕ) (fit : FitLine (block_length c) b) (s : start ≡ filled 16 (hex_bytes b.start))
    (k : name ≡ filled 32 b.name) where
  abbrev n : ℕ
  n = block_length c

  abbrev entry : Entry
  entry = record { mode = b.mode; length = b.len.value; start = start; name_length = length b.name; name = name }

  pub line-body : body_in n entry ≡ ordered b
  line-body =
      let f = fit-ordered c b fit in
      let first : take (start_length b.mode n) start ≡ hex_bytes b.start =
      ap (take (start_length b.mode n)) s ∙ take_at (hex_bytes b.start) (replicate (16 - length (hex_bytes b.start)) 0) (start_length b.mode n) f.long in
      let second : take (length b.name) name ≡ b.name =
      ap (take (length b.name)) k ∙ take_at b.name (replicate (32 - length b.name) 0) (length b.name) refl in
      ap₂ (λ (x y : List ℕ). record { mode = b.mode; start = x; len = b.len.value; name = y }) first second

  pub line-held : is_held n entry ≡ true
  line-held =
      let same : bytes_in entry ≡ entry_of (ordered b) =
      ap (λ (xs : List ℕ). mode_number b.mode ∷ length b.name ∷ 0 ∷ 0 ∷ (four_bytes b.len.value ++ xs)) (ap₂ (λ (x y : List ℕ). x ++ y) s k) in
      and_from _ _ ((bytes_eq-Decides (bytes_in entry) (entry_of (body_in n entry))).1 (same ∙ ap entry_of (sym line-body)))
      (fit-test n (body_in n entry) (subst (Fit n) (sym line-body) (fit-ordered c b fit)))

-- The bodies that the lines of a passed sheet name are those that it orders.

abbrev body_of_form : Form → List Body
body_of_form blank = []
body_of_form comment = []
body_of_form (cipher c) = []
body_of_form (body b) = b ∷ []

named-counting : (forms : List Form) → orders.bodies_in (map (λ f. Some f) forms) ≡ flat_map body_of_form (flat_map counting forms)
named-counting [] = refl
named-counting (blank ∷ forms) = named-counting forms
named-counting (comment ∷ forms) = named-counting forms
named-counting (cipher c ∷ forms) = named-counting forms
named-counting (body b ∷ forms) = ap (λ (bs : List Body). b ∷ bs) (named-counting forms)

named-bodies : (bs : List Body) → flat_map body_of_form (map body bs) ≡ bs
named-bodies [] = refl
named-bodies (b ∷ bs) = ap (λ (xs : List Body). b ∷ xs) (named-bodies bs)

pub named-if-passes : (sheet : List ℕ) (o : Order) (p : Passes sheet o) → orders.bodies_in (lines_of sheet) ≡ p.named
named-if-passes sheet o p =
    ap orders.bodies_in ((reads-written sheet p.forms).1 p.lines) ∙ named-counting p.forms ∙ ap (flat_map body_of_form) p.counted ∙ named-bodies p.named

-- what a sheet that passes asks of its body lines
pub record Passed (c : CipherKind) (sheet : List ℕ) (o : Order) : Type 0 where
  pub fit : FitLines (block_length c) (orders.bodies_in (lines_of sheet))
  pub are : o.bodies ≡ map ordered (orders.bodies_in (lines_of sheet))
  pub passes : Passes sheet o

pub passed : (sheet : List ℕ) (o : Order) → order_of sheet ≡ Ok o → Passed o.cipher sheet o
passed sheet o e =
    let p = (orders-if-passes sheet o).0 e in
    let named = named-if-passes sheet o p in
    record {
      fit = record { few = rw named p.few; each = rw named (kept-if-passes sheet o p) };
      are = p.bodies ∙ ap (map ordered) (sym named);
      passes = p;
    }

pub answer-order : (r : Result Order SheetFault) (checked : Checked) → Ok checked ≡ map_ok summary r → (o : Order) × (r ≡ Ok o) × (summary o ≡ checked)
answer-order (Ok o) checked e = (o, refl, cc)
answer-order (Err f) checked e = clash (cc)

-- What the reader's next line says of the lines that are left; k lines were read.
module _ (k : ℕ) where
  pub next-named : (ls : List Line) (i : ℕ) (f : Form) → Some (Ok (i, f)) ≡ next_of k ls → orders.bodies_in ls ≡ body_named (Some f) ++ orders.bodies_in (tail_of ls)
  next-named [] i f e = clash (cc)
  next-named (None ∷ ls) i f e = clash (cc)
  next-named (Some g ∷ ls) i f e =
      let q : (i, f) ≡ (k + 1, g) = cc in ap (λ (p : ℕ × Form). body_named (Some p.1) ++ orders.bodies_in ls) (sym q)

  pub next-less : (ls : List Line) (item : Result (ℕ × Form) SheetFault) → Some item ≡ next_of k ls → length (tail_of ls) < length ls
  next-less [] item e = clash (cc)
  next-less (None ∷ ls) item e = omega arith
  next-less (Some f ∷ ls) item e = omega arith

pub none_named : (kind : LineKind) → ((b : BodyLine) → kind ≡ LineKind.Body b → ⊥) → body_named (Some (form_model kind)) ≡ []
none_named LineKind.Blank h = refl
none_named LineKind.Comment h = refl
none_named (LineKind.Cipher c) h = refl
none_named (LineKind.Body b) h = absurd (h b refl)

-- One body line more: `rest` are the bodies of the lines that were left before it, and `later` those that are left after it.
module _ (n : ℕ) (es more : List Entry) (e : Entry) (b : Body) (rest later : List Body) (first : rest ≡ b ∷ later) (pushed : more ≡ es ++ e ∷ []) where
  pub line-fits : AllByRecursion (FitLine n) rest → FitLine n b × AllByRecursion (FitLine n) later
  line-fits h = let k : AllByRecursion (FitLine n) (b ∷ later) = rw first at h in (k.0, k.1)

  pub line-counted : (whole : ℕ) → length es + length rest ≡ whole → length more + length later ≡ whole
  line-counted whole h = let k = ap length first in let l = ap length pushed ∙ length_push es e in omega arith

  pub line-more : (whole : List BodyOrder) → body_in n e ≡ ordered b
      → bodies_in n es ++ map ordered rest ≡ whole → bodies_in n more ++ map ordered later ≡ whole
  line-more whole is inv =
      ap (λ (xs : List Entry). bodies_in n xs ++ map ordered later) pushed
      ∙ ap (λ (bs : List BodyOrder). bs ++ map ordered later) (map_push (body_in n) es e)
      ∙ append_assoc (bodies_in n es) (body_in n e ∷ []) (map ordered later)
      ∙ ap (λ (x : BodyOrder). bodies_in n es ++ x ∷ map ordered later) is
      ∙ ap (λ (xs : List Body). bodies_in n es ++ map ordered xs) (sym first)
      ∙ inv

-- What the line that was read says of the bodies that are left.
module _ (k : ℕ) (ls after : List Line) (item : Result line.Line SheetFault) (l : line.Line) (v : Some (result_model item) ≡ next_of k ls)
    (is : item ≡ Ok l) (rest : after ≡ tail_of ls) where
  read-so : orders.bodies_in ls ≡ body_named (Some (form_model l.kind)) ++ orders.bodies_in after
  read-so =
      next-named k ls l.number (form_model l.kind) (ap (λ (i : Result line.Line SheetFault). Some (result_model i)) (sym is) ∙ v)
      ∙ ap (λ (xs : List Line). body_named (Some (form_model l.kind)) ++ orders.bodies_in xs) (sym rest)

  pub first-named : (b : BodyLine) → l.kind ≡ LineKind.Body b → orders.bodies_in ls ≡ body_model b ∷ orders.bodies_in after
  first-named b e = read-so ∙ ap (λ (x : LineKind). body_named (Some (form_model x)) ++ orders.bodies_in after) e

-- What `check` answers of a sheet, and the contents that the sheet orders.

pub checked-order : (work : ℕ) (sheet : List ℕ) (checked : Checked) → Ok checked ≡ checked_of work sheet
    → (o : Order) × (order_of sheet ≡ Ok o) × (summary o ≡ checked) × (ltb work 1792 ≡ false)
checked-order work sheet checked e =
    ⊎_elim
    (λ (t : ltb work 1792 ≡ true).
    let z : Ok checked ≡ Err ShortWorkArea = rw t at e in
    clash (cc))
    (λ (t : ltb work 1792 ≡ false).
    let g : Ok checked ≡ map_ok summary (order_of sheet) = rw t at e in
    let a = answer-order (order_of sheet) checked g in
    (a.0, a.1, a.2, t))
    (cases_Bool (ltb work 1792))

module _ (work : ℕ) (sheet : List ℕ) (checked : Checked) (m : BlockLength) (e : Ok checked ≡ checked_of work sheet) where
  abbrev o : Order
  o = (checked-order work sheet checked e).0

  pub checked-cipher : checked.block_length ≡ block_length o.cipher
  checked-cipher = ap (λ (x : Checked). x.block_length) (sym (checked-order work sheet checked e).2)

  pub checked-passed : Passed o.cipher sheet o
  checked-passed = passed sheet o (checked-order work sheet checked e).1

  module _ (c : CipherKind) (es : List Entry) (is : c ≡ o.cipher)
      (read : bodies_in (block_length c) es ≡ map ordered (orders.bodies_in (lines_of sheet))) where
    same-bodies : bodies_in (block_length c) es ≡ o.bodies
    same-bodies = read ∙ sym checked-passed.are

    pub said-order : said_of c m (bodies_in (block_length c) es) ≡ record { order = o; tag = length_of m }
    said-order = ap₂ (λ (x : CipherKind) (bs : List BodyOrder). said_of x m bs) is same-bodies

    pub said-answer : Ok (said_of c m (bodies_in (block_length c) es)) ≡ ordered_by work sheet m
    said-answer =
        let a = checked-order work sheet checked e in
        ap (λ (s : SetOrder). Ok s) said-order ∙ sym (rw (a.3, a.1))

    pub said-passes : Passes sheet (said_of c m (bodies_in (block_length c) es)).order
    said-passes = subst (λ (s : SetOrder). Passes sheet s.order) (sym said-order) checked-passed.passes

    pub said-contents : are_held (block_length c) es ≡ true → is_contents c es ≡ true
    said-contents held =
        let p = sound-if-passes sheet o checked-passed.passes in
        let many : length es ≡ length o.bodies = sym (length-map es (body_in (block_length c))) ∙ ap length same-bodies in
        let some : 1 ≤ length o.bodies = p.1 in
        let few : length o.bodies ≤ 32 = p.0.few in
        contents-if c es (omega arith) (omega arith) held
        (subst (λ (bs : List BodyOrder). Sound (block_length c) bs) (sym same-bodies) (subst (λ (x : CipherKind). Sound (block_length x) o.bodies) (sym is) p.0))
