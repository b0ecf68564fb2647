-- Fields that are filled up with zeros.
use Rattle.std.proofs.Common.{◌≡◌, ℕ, ◌-◌, ◌*◌, ◌/◌, ◌≤◌, true, List, [], ◌∷◌, ◌++◌, length, drop, replicate, refl, ap, ◌∙◌, arith}
use Rattle.std.proofs.lemmas.List.{drop-replicate}
use Rattle.std.proofs.lemmas.Bool.{and_from, eq-eqb}
use Rattle.hex_digits.specs.Hex.{all_hex_digits, hex_bytes, is_hex, read_out}
use Rattle.sheet_format.specs.Lines.{Body, is_start}
use Rattle.sheet_format.specs.Sizes.{block_length, start_digits}
use Rattle.sheet_format.specs.declared.CipherKind.{CipherKind}
use Rattle.sheet_format.specs.declared.CipherKind.TheVariants.{Kuznyechik, Magma}
use Rattle.sheet_format.specs.declared.Mode.{Mode}
use Rattle.sheet_format.specs.declared.Mode.TheVariants.{Ctr, Cbc}
use Rattle.contents_format.specs.Layout.{filled}
use Rattle.contents_laws.specs.BodyLines.{FitLine}

-- what is written to the front of zeros
pub front-filled : (k n : ℕ) (ys : List ℕ) → n ≡ length ys → ys ++ drop n (replicate k 0) ≡ filled k ys
front-filled k n ys e = ap (λ (zs : List ℕ). ys ++ zs) (drop-replicate n k 0) ∙ ap (λ (m : ℕ). ys ++ replicate (k - m) 0) e

length-hex_bytes : (xs : List ℕ) → length (hex_bytes xs) ≡ length xs / 2
length-hex_bytes [] = refl
length-hex_bytes (x ∷ []) = refl
length-hex_bytes (x ∷ y ∷ zs) = omega (arith, length-hex_bytes zs)

pub start-filled : (out digits field : List ℕ) → length field ≡ length digits / 2 → is_hex (length digits / 2) digits ≡ true → out ≡ read_out field digits
    → out ++ drop (length digits / 2) (replicate 16 0) ≡ filled 16 (hex_bytes digits)
start-filled out digits field long hex e =
    let made : out ≡ hex_bytes digits = e ∙ rw (long, hex) refl in
    ap (λ (xs : List ℕ). xs ++ drop (length digits / 2) (replicate 16 0)) made ∙ front-filled 16 (length digits / 2) (hex_bytes digits) (omega (arith, length-hex_bytes digits))

digits-even : (c : CipherKind) (mode : Mode) (k : ℕ) → k ≡ start_digits mode (block_length c) → (k ≡ 2 * (k / 2)) × (k ≤ 32)
digits-even Kuznyechik Ctr k e = (omega arith, omega arith)
digits-even Kuznyechik Cbc k e = (omega arith, omega arith)
digits-even Magma Ctr k e = (omega arith, omega arith)
digits-even Magma Cbc k e = (omega arith, omega arith)

hex-start : (text : List ℕ) → is_start text ≡ true → all_hex_digits text ≡ true
hex-start [] t = refl
hex-start (x ∷ xs) t = t

-- START of a body line that keeps the rules is two digits for each byte
pub start-digits : (c : CipherKind) (b : Body) → FitLine (block_length c) b → (length b.start ≤ 32) × (is_hex (length b.start / 2) b.start ≡ true)
start-digits c b f =
    let even = digits-even c b.mode (length b.start) f.digits in
    (even.1, and_from _ _ (eq-eqb (length b.start) (2 * (length b.start / 2)) even.0) (hex-start b.start f.start))
