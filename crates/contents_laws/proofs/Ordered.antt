-- What a sheet that passes orders is sound.
use Rattle.std.proofs.Common.{◌≡◌, ℕ, ◌*◌, ◌≤◌, true, false, List, [], ◌∷◌, map, length, sym, refl, ap, ◌∙◌, subst, arith}
use lib.ListN.{length-map}
use Rattle.std.specs.List.{flat_map, AllByRecursion}
use Rattle.std.proofs.ByRecursion.{All-append, All-map, All-weaker}
use Rattle.hex_digits.specs.Hex.{all_hex_digits, hex_bytes}
use Rattle.sheet_format.specs.Lines.{Body, Form, blank, comment, cipher, body, is_start, is_name}
use Rattle.sheet_format.specs.Orders.{Order, ordered}
use Rattle.sheet_format.specs.Sizes.{block_length, start_digits}
use Rattle.sheet_format.specs.declared.CipherKind.{CipherKind}
use Rattle.sheet_format.specs.declared.CipherKind.TheVariants.{Kuznyechik, Magma}
use Rattle.sheet_format.specs.declared.Mode.{Mode}
use Rattle.sheet_format.specs.declared.Mode.TheVariants.{Ctr, Cbc}
use Rattle.sheet_laws.specs.Grammar.{HasForm}
use Rattle.sheet_laws.specs.Passes as passes
use Rattle.sheet_laws.specs.Passes.{Passes, NoTwo, counting}
use Rattle.contents_format.specs.Layout.{start_length}
use Rattle.contents_laws.specs.BodyLines.{FitLine}
use Rattle.contents_laws.proofs.Digits.{hex_text, length-text, text-of-bytes}
use Rattle.contents_laws.proofs.Sound.{Fit, Sound, SameName, SameStart}

-- START has two digits for each of its bytes
pub two_digits : (mode : Mode) (c : CipherKind) → start_digits mode (block_length c) ≡ 2 * start_length mode (block_length c)
two_digits Ctr Kuznyechik = refl
two_digits Ctr Magma = refl
two_digits Cbc Kuznyechik = refl
two_digits Cbc Magma = refl

-- no two are alike, seen through f
module _ {X Y : Type 0} (f : X → Y) (Good : X → Type 0) (P : X → X → Type 0) (Q : Y → Y → Type 0) (back : (x y : X) → Good x → Good y → Q (f x) (f y) → P x y) where
  others : (x : X) → Good x → (ys : List X) → AllByRecursion Good ys → AllByRecursion (λ y. P x y → ⊥) ys → AllByRecursion (λ y. Q (f x) (f y) → ⊥) ys
  others x g [] gs ps = tt
  others x g (y ∷ ys) gs ps = (λ q. ps.0 (back x y g gs.0 q), others x g ys gs.1 ps.1)

  pub no_two-map : (xs : List X) → AllByRecursion Good xs → NoTwo P xs → NoTwo Q (map f xs)
  no_two-map [] g h = tt
  no_two-map (x ∷ xs) g h = (All-map (λ y. Q (f x) y → ⊥) f xs (others x g.0 xs g.1 h.0), no_two-map xs g.1 h.1)

-- What the form of a body line says of its START and NAME.

abbrev Formed : Form → Type 0
Formed blank = Unit {0}
Formed comment = Unit {0}
Formed (cipher c) = Unit {0}
Formed (body b) = (is_start b.start ≡ true) × (is_name b.name ≡ true)

formed-if : (text : List ℕ) (f : Form) → HasForm text f → Formed f
formed-if text blank h = tt
formed-if text comment h = tt
formed-if text (cipher c) h = tt
formed-if text (body b) h = (h.2, h.4)

lines-formed : (lines : List (List ℕ × Form)) → AllByRecursion (λ p. HasForm p.0 p.1) lines → AllByRecursion Formed (map (λ p. p.1) lines)
lines-formed [] h = tt
lines-formed (l ∷ lines) h = (formed-if l.0 l.1 h.0, lines-formed lines h.1)

counting-formed : (f : Form) → Formed f → AllByRecursion Formed (counting f)
counting-formed blank h = tt
counting-formed comment h = tt
counting-formed (cipher c) h = (h, tt)
counting-formed (body b) h = (h, tt)

counted-formed : (forms : List Form) → AllByRecursion Formed forms → AllByRecursion Formed (flat_map counting forms)
counted-formed [] h = tt
counted-formed (f ∷ forms) h = All-append Formed (counting f) (flat_map counting forms) (counting-formed f h.0) (counted-formed forms h.1)

-- what body lines keep

kept-all : (n : ℕ) (bs : List Body) → AllByRecursion Formed (map body bs) → AllByRecursion (λ b. (b.len.value ≤ 1048576) × (b.len.padded ≡ false)) bs
    → AllByRecursion (λ b. length b.start ≡ start_digits b.mode n) bs → AllByRecursion (FitLine n) bs
kept-all n [] f l d = tt
kept-all n (b ∷ bs) f l d = (record { start = f.0.0; named = f.0.1; limit = l.0.0; digits = d.0 }, kept-all n bs f.1 l.1 d.1)

all_digits : (xs : List ℕ) → is_start xs ≡ true → all_hex_digits xs ≡ true
all_digits [] e = refl
all_digits (x ∷ xs) e = e

start_back : (c : CipherKind) (b : Body) → FitLine (block_length c) b → hex_text (hex_bytes b.start) ≡ b.start
start_back c b k =
    (text-of-bytes (start_length b.mode (block_length c)) b.start (k.digits ∙ two_digits b.mode c) (all_digits b.start k.start)).0

pub fit-ordered : (c : CipherKind) (b : Body) → FitLine (block_length c) b → Fit (block_length c) (ordered b)
fit-ordered c b k =
    let two = two_digits b.mode c in
    let t = text-of-bytes (start_length b.mode (block_length c)) b.start (k.digits ∙ two) (all_digits b.start k.start) in
    let twice : length b.start ≡ 2 * length (hex_bytes b.start) = ap length (sym t.0) ∙ length-text (hex_bytes b.start) in
    let given : length b.start ≡ start_digits b.mode (block_length c) = k.digits in
    record {
      limit = k.limit;
      long = omega arith;
      bytes = t.1;
      named = k.named;
    }

pub kept-if-passes : (sheet : List ℕ) (o : Order) (p : Passes sheet o) → AllByRecursion (FitLine (block_length o.cipher)) p.named
kept-if-passes sheet o p =
    let c = o.cipher in
    let forms : AllByRecursion Formed p.forms = subst (λ (fs : List Form). AllByRecursion Formed fs) p.lines.3 (lines-formed p.lines.0 p.lines.2) in
    let counted : AllByRecursion Formed (cipher c ∷ map body p.named) =
    subst (λ (fs : List Form). AllByRecursion Formed fs) p.counted (counted-formed p.forms forms) in
    kept-all (block_length c) p.named counted.1 p.lengths p.digits

pub sound-if-passes : (sheet : List ℕ) (o : Order) → Passes sheet o → Sound (block_length o.cipher) o.bodies × (1 ≤ length o.bodies)
sound-if-passes sheet o p =
    let c = o.cipher in
    let n = block_length c in
    let kept = kept-if-passes sheet o p in
    let s : Sound n (map ordered p.named) = record {
      few = rw (length-map p.named ordered) p.few;
      each = All-map (Fit n) ordered p.named (All-weaker (FitLine n) (λ b. Fit n (ordered b)) (fit-ordered c) p.named kept);
      names = no_two-map ordered (FitLine n) passes.SameName SameName (λ x y gx gy q. q) p.named kept p.names;
      starts = no_two-map ordered (FitLine n) passes.SameCtrStart SameStart
          (λ x y gx gy q. (q.0, q.1, sym (start_back c x gx) ∙ ap hex_text q.2 ∙ start_back c y gy)) p.named kept p.starts;
      blocks = rw p.bodies at p.blocks;
    } in
    (rw p.bodies s, rw (p.bodies, length-map p.named ordered) p.some)
