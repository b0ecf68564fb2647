-- The faults by their keys (turn, number and place), and the first fault that one line meets.
use Rattle.std.proofs.Common.{◌≡◌, ℕ, ◌+◌, ◌<◌, ◌≤◌, Bool, true, false, cond, ◌⊎◌, List, [], ◌∷◌, get_or, Some, None, Decides, Option, sym, refl, ap, ◌∙◌, subst, inl, inr, ⊎_elim, arith}
use lib.ListN.{get_or-eq_default}
use Rattle.std.proofs.lemmas.Bool.{cases_eq, cases_order}
use Rattle.sheet_format.specs.Faults.{number_of, place_of}
use Rattle.sheet_format.specs.Lines.{Line}
use Rattle.sheet_format.specs.Orders.{no_form, misplaced_cipher, too_many_bodies, bad_length, wrong_start_digits, name_taken, start_taken, too_many_blocks, line_fault}
use Rattle.sheet_format.specs.declared.SheetFault.{SheetFault}
use Rattle.sheet_format.specs.declared.SheetFault.TheVariants.{TooLong, BadByte, NoForm, MisplacedCipher, BodyCount, BadLength, StartDigits, RepeatedName, RepeatedStart, TooManyBlocks, ShortWorkArea}
use Rattle.sheet_laws.specs.Meets.{MisplacedAt, BodyCountAt, BadLengthAt, StartDigitsAt, RepeatedNameAt, RepeatedStartAt, TooManyBlocksAt, turn, Sooner}
use Rattle.sheet_laws.proofs.Clash.{clash}
use Rattle.sheet_laws.proofs.Conditions.{no-form, misplaced, too-many-bodies, bad-length, wrong-start-digits, name-taken, start-taken, too-many-blocks}

-- the fault of a turn, a number and a place
abbrev fault_by : ℕ → ℕ → ℕ → SheetFault
fault_by t n k =
    get_or (TooLong ∷ BadByte k
    ∷ get_or (TooLong ∷ TooLong ∷ NoForm k ∷ MisplacedCipher k ∷ BodyCount k ∷ BadLength k ∷ StartDigits k
    ∷ RepeatedName k ∷ RepeatedStart k ∷ TooManyBlocks k ∷ []) n TooLong
    ∷ ShortWorkArea ∷ []) t TooLong

by_key : (f : SheetFault) → fault_by (turn f) (number_of f) (place_of f) ≡ f
by_key TooLong = refl
by_key (BadByte k) = refl
by_key (NoForm k) = refl
by_key (MisplacedCipher k) = refl
by_key (BodyCount k) = refl
by_key (BadLength k) = refl
by_key (StartDigits k) = refl
by_key (RepeatedName k) = refl
by_key (RepeatedStart k) = refl
by_key (TooManyBlocks k) = refl
by_key ShortWorkArea = refl

pub turn-0 : (f : SheetFault) → turn f ≡ 0 → f ≡ TooLong
turn-0 f e = sym (by_key f) ∙ ap (λ t. fault_by t (number_of f) (place_of f)) e

pub turn-1 : (f : SheetFault) → turn f ≡ 1 → f ≡ BadByte (place_of f)
turn-1 f e = sym (by_key f) ∙ ap (λ t. fault_by t (number_of f) (place_of f)) e

same_key : (f g : SheetFault) → turn f ≡ turn g → place_of f ≡ place_of g → number_of f ≡ number_of g → f ≡ g
same_key f g t k n = let p = by_key f in let q = by_key g in cc

-- of two faults one is looked at first
pub one-sooner : (f g : SheetFault) → (f ≡ g) ⊎ (Sooner f g ⊎ Sooner g f)
one-sooner f g =
    ⊎_elim
    (λ t. ⊎_elim
    (λ k. ⊎_elim
    (λ n. inl (same_key f g t k n))
    (⊎_elim (λ n. inr (inl (inr (t, inr (k, n))))) (λ n. inr (inr (inr (sym t, inr (sym k, n))))))
    (cases_order (number_of f) (number_of g)))
    (⊎_elim (λ k. inr (inl (inr (t, inl k)))) (λ k. inr (inr (inr (sym t, inl k)))))
    (cases_order (place_of f) (place_of g)))
    (⊎_elim (λ t. inr (inl (inl t))) (λ t. inr (inr (inl t))))
    (cases_order (turn f) (turn g))

-- what the faults 0, 1, .. say of a line and of the lines before it; only 2 to 9 say something of a line
abbrev conditions : List Line → Line → List (Type 0)
conditions earlier l =
    ⊥ ∷ ⊥ ∷ (l ≡ None) ∷ MisplacedAt earlier l ∷ BodyCountAt earlier l ∷ BadLengthAt earlier l ∷ StartDigitsAt earlier l
    ∷ RepeatedNameAt earlier l ∷ RepeatedStartAt earlier l ∷ TooManyBlocksAt earlier l ∷ []

abbrev pub LineMeets : ℕ → List Line → Line → Type 0
LineMeets n earlier l = get_or (conditions earlier l) n ⊥

-- what asking from number n on tells of a line: the first of its faults, at line k, or that it has none
abbrev pub FirstFrom : ℕ → ℕ → List Line → Line → Option SheetFault → Type 0
FirstFrom n k earlier l None = (m : ℕ) → n ≤ m → LineMeets m earlier l → ⊥
FirstFrom n k earlier l (Some f) =
    LineMeets (number_of f) earlier l × (place_of f ≡ k) × (turn f ≡ 2)
    × ((m : ℕ) → n ≤ m → m < number_of f → LineMeets m earlier l → ⊥)

-- fault n does not meet the line, so asking from n on tells what asking from n + 1 on does
skip : (n k : ℕ) (earlier : List Line) (l : Line) (o : Option SheetFault)
    → (LineMeets n earlier l → ⊥) → FirstFrom (n + 1) k earlier l o → FirstFrom n k earlier l o
skip n k earlier l None not more =
    λ m h met. ⊎_elim (λ e. not (subst (λ i. LineMeets i earlier l) e met)) (λ d. more m (omega arith) met) (cases_eq m n)
skip n k earlier l (Some f) not more = (
  more.0,
  more.1,
  more.2,
  λ m h below met.
      ⊎_elim (λ e. not (subst (λ i. LineMeets i earlier l) e met)) (λ d. more.3 m (omega arith) below met) (cases_eq m n),
)

-- one test of the chain
ask : (n k : ℕ) (earlier : List Line) (l : Line) (t : Bool) (f : SheetFault) (rest : Option SheetFault)
    → number_of f ≡ n → place_of f ≡ k → turn f ≡ 2 → Decides t (LineMeets n earlier l)
    → FirstFrom (n + 1) k earlier l rest → FirstFrom n k earlier l (cond t (Some f) rest)
ask n k earlier l true f rest number place turned d more =
    (subst (λ i. LineMeets i earlier l) (sym number) (d.0 refl), place, turned, λ m h below met. omega arith)
ask n k earlier l false f rest number place turned d more =
    skip n k earlier l rest (λ met. let e = d.1 met in clash (cc)) more

pub first-of-line : (k : ℕ) (earlier : List Line) (l : Line) → FirstFrom 0 k earlier l (line_fault k earlier l)
first-of-line k earlier l =
    skip 0 k earlier l (line_fault k earlier l) (λ none. none)
    (skip 1 k earlier l (line_fault k earlier l) (λ none. none)
    (ask 2 k earlier l (no_form l) (NoForm k) _ refl refl refl (no-form l)
    (ask 3 k earlier l (misplaced_cipher earlier l) (MisplacedCipher k) _ refl refl refl (misplaced earlier l)
    (ask 4 k earlier l (too_many_bodies earlier l) (BodyCount k) _ refl refl refl (too-many-bodies earlier l)
    (ask 5 k earlier l (bad_length l) (BadLength k) _ refl refl refl (bad-length earlier l)
    (ask 6 k earlier l (wrong_start_digits earlier l) (StartDigits k) _ refl refl refl (wrong-start-digits earlier l)
    (ask 7 k earlier l (name_taken earlier l) (RepeatedName k) _ refl refl refl (name-taken earlier l)
    (ask 8 k earlier l (start_taken earlier l) (RepeatedStart k) _ refl refl refl (start-taken earlier l)
    (ask 9 k earlier l (too_many_blocks earlier l) (TooManyBlocks k) None refl refl refl (too-many-blocks earlier l)
    (λ m h met. subst (λ (P : Type 0). P) (get_or-eq_default (conditions earlier l) ⊥ h) met))))))))))
