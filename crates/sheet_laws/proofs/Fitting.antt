-- What a body line has to meet among the bodies before it, and the test of `line_fault` for it.
use Rattle.std.proofs.Common.{◌≡◌, ℕ, ◌<◌, ◌≤◌, Bool, true, false, cond, not, ◌&&◌, ◌||◌, ltb, List, [], ◌∷◌, ◌++◌, map, length, Some, None, Decides, Option, refl, arith, length-append}
use Rattle.std.specs.List.{AllByRecursion}
use Rattle.std.specs.Str.{bytes_eq}
use Rattle.std.proofs.ByRecursion.{All-push}
use Rattle.std.proofs.lemmas.Slice.Eq.{bytes_eq-Decides}
use Rattle.std.proofs.lemmas.List.{length_push}
use Rattle.std.proofs.lemmas.Bool.{and_right, or_parts, or_from, not-true, not-false, not_from_false, leb-false, lt-leb, ltb-false, le-ltb, eqb-true, eq-eqb}
use Rattle.std.proofs.lemmas.Bool.Decides.{Decides-and, Decides-like}
use Rattle.sheet_format.specs.Lines.{Body, body, Line}
use Rattle.sheet_format.specs.Orders.{ordered, total_blocks, ciphers_in, bodies_in, none_counts, has_name, has_ctr_start, is_ctr, line_fault}
use Rattle.sheet_format.specs.Sizes.{block_length, start_digits}
use Rattle.sheet_format.specs.declared.CipherKind.{CipherKind}
use Rattle.sheet_format.specs.declared.Mode.TheVariants.{Ctr}
use Rattle.sheet_laws.specs.Passes.{NoTwo, SameName, SameCtrStart}
use Rattle.sheet_laws.proofs.Clash.{clash}
use Rattle.sheet_laws.proofs.Conditions.{is-ctr, ctr-start}
use Rattle.sheet_laws.proofs.Prefixes.{all_middle, no_two-push, no_two-next, front-blocks, none-by-or}

abbrev pub LengthFits : Body → Type 0
LengthFits b = (b.len.value ≤ 1048576) × (b.len.padded ≡ false)

abbrev pub DigitsFit : CipherKind → Body → Type 0
DigitsFit c b = length b.start ≡ start_digits b.mode (block_length c)

-- the bodies keep to the format, for the cipher c
pub record Sound (c : CipherKind) (bs : List Body) : Type 0 where
  pub few : length bs ≤ 32
  pub lengths : AllByRecursion LengthFits bs
  pub digits : AllByRecursion (DigitsFit c) bs
  pub names : NoTwo SameName bs
  pub starts : NoTwo SameCtrStart bs
  pub blocks : total_blocks (block_length c) (map ordered bs) ≤ 1000000

-- b may follow them
pub record Fits (c : CipherKind) (bs : List Body) (b : Body) : Type 0 where
  pub few : length bs < 32
  pub lengths : LengthFits b
  pub digits : DigitsFit c b
  pub names : AllByRecursion (λ e. SameName e b → ⊥) bs
  pub starts : AllByRecursion (λ e. SameCtrStart e b → ⊥) bs
  pub blocks : total_blocks (block_length c) (map ordered (bs ++ b ∷ [])) ≤ 1000000

pub sound_none : (c : CipherKind) → Sound c []
sound_none c = record { few = omega arith; lengths = tt; digits = tt; names = tt; starts = tt; blocks = omega arith }

pub sound-push : (c : CipherKind) (bs : List Body) (b : Body) → Sound c bs → Fits c bs b → Sound c (bs ++ b ∷ [])
sound-push c bs b s f = record {
  few = omega (arith, length_push bs b, f.few);
  lengths = All-push LengthFits bs b s.lengths f.lengths;
  digits = All-push (DigitsFit c) bs b s.digits f.digits;
  names = no_two-push SameName bs b s.names f.names;
  starts = no_two-push SameCtrStart bs b s.starts f.starts;
  blocks = f.blocks;
}

pub fits_next : (c : CipherKind) (bs : List Body) (b : Body) (later : List Body) → Sound c (bs ++ b ∷ later) → Fits c bs b
fits_next c bs b later s = record {
  few = omega (arith, length-append bs (b ∷ later), s.few);
  lengths = all_middle LengthFits bs b later s.lengths;
  digits = all_middle (DigitsFit c) bs b later s.digits;
  names = no_two-next SameName bs b later s.names;
  starts = no_two-next SameCtrStart bs b later s.starts;
  blocks = omega (arith, front-blocks (block_length c) bs b later, s.blocks);
}

-- the test of two START fields, with the mode of b in front
abbrev shares_ctr_start : Body → Body → Bool
shares_ctr_start b e = is_ctr b.mode && (is_ctr e.mode && bytes_eq e.start b.start)

shares_ctr_start-decides : (b e : Body) → Decides (shares_ctr_start b e) (SameCtrStart e b)
shares_ctr_start-decides b e =
    Decides-like (shares_ctr_start b e)
    (λ (h : (b.mode ≡ Ctr) × ((e.mode ≡ Ctr) × (e.start ≡ b.start))). (h.1.0, h.0, h.1.1))
    (λ (h : SameCtrStart e b). (h.1, (h.0, h.2)))
    (Decides-and (is_ctr b.mode) (is_ctr e.mode && bytes_eq e.start b.start) (is-ctr b.mode) (ctr-start b.start e))

pub and-or : (x y z : Bool) → (x && (y || z)) ≡ ((x && y) || (x && z))
and-or true y z = refl
and-or false y z = refl

name-untaken : (b : Body) (bs : List Body) → Decides (not (has_name b.name bs)) (AllByRecursion (λ e. SameName e b → ⊥) bs)
name-untaken b =
    none-by-or (λ e. bytes_eq e.name b.name) (λ e. SameName e b) (has_name b.name)
    (λ e. bytes_eq-Decides e.name b.name) refl (λ _ _. refl)

start-untaken : (b : Body) (bs : List Body) → Decides (not (is_ctr b.mode && has_ctr_start b.start bs)) (AllByRecursion (λ e. SameCtrStart e b → ⊥) bs)
start-untaken b =
    none-by-or (shares_ctr_start b) (λ e. SameCtrStart e b) (λ es. is_ctr b.mode && has_ctr_start b.start es)
    (shares_ctr_start-decides b) (and_right (is_ctr b.mode) false refl)
    (λ e es. and-or (is_ctr b.mode) (is_ctr e.mode && bytes_eq e.start b.start) (has_ctr_start b.start es))

-- a test that refuses nothing
pub untrue-test : {A : Type 0} (t : Bool) (x : A) (rest : Option A) → cond t (Some x) rest ≡ None → (t ≡ false) × (rest ≡ None)
untrue-test true x rest e = clash (cc)
untrue-test false x rest e = (refl, e)

-- the lines before are those of a cipher line of c and the body lines of bs, but for what is passed over
pub record After (earlier : List Line) (c : CipherKind) (bs : List Body) : Type 0 where
  pub counting : none_counts earlier ≡ false
  pub ciphers : ciphers_in earlier ≡ c ∷ []
  pub bodies : bodies_in earlier ≡ bs

module _ (k : ℕ) (earlier : List Line) (c : CipherKind) (bs : List Body) (b : Body) (a : After earlier c bs) where
  pub fits-if-unrefused : line_fault k earlier (Some (body b)) ≡ None → Fits c bs b
  fits-if-unrefused e =
      let e₀ = rw (a.counting, a.ciphers, a.bodies) at e in
      let t₁ = untrue-test _ _ _ e₀ in
      let t₂ = untrue-test _ _ _ t₁.1 in
      let t₃ = untrue-test _ _ _ t₂.1 in
      let t₄ = untrue-test _ _ _ t₃.1 in
      let t₅ = untrue-test _ _ _ t₄.1 in
      let t₆ = untrue-test _ _ _ t₅.1 in
      let l = or_parts (ltb 1048576 b.len.value) b.len.padded t₂.0 in
      record {
        few = leb-false 32 (length bs) t₁.0;
        lengths = (ltb-false 1048576 b.len.value l.0, l.1);
        digits = eqb-true (length b.start) (start_digits b.mode (block_length c)) (not-false _ t₃.0);
        names = (name-untaken b bs).0 (not_from_false _ t₄.0);
        starts = (start-untaken b bs).0 (not_from_false _ t₅.0);
        blocks = ltb-false 1000000 (total_blocks (block_length c) (map ordered (bs ++ b ∷ []))) t₆.0;
      }

  pub unrefused-if-fits : Fits c bs b → line_fault k earlier (Some (body b)) ≡ None
  unrefused-if-fits f =
      let t₁ = lt-leb 32 (length bs) f.few in
      let t₂ = or_from (ltb 1048576 b.len.value) b.len.padded (le-ltb 1048576 b.len.value f.lengths.0) f.lengths.1 in
      let t₃ = eq-eqb (length b.start) (start_digits b.mode (block_length c)) f.digits in
      let t₆ = le-ltb 1000000 (total_blocks (block_length c) (map ordered (bs ++ b ∷ []))) f.blocks in
      rw (a.counting, a.ciphers, a.bodies, t₁, t₂, t₃, not-true _ ((name-untaken b bs).1 f.names), not-true _ ((start-untaken b bs).1 f.starts), t₆)
