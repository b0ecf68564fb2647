-- A fault of turn 2 meets a sheet exactly where it is met on the way through its lines.
use Rattle.std.proofs.Common.{◌≡◌, ℕ, ◌≤◌, ◌⊎◌, List, [], ◌∷◌, ◌++◌, sym, refl, ap, subst, inl, inr, ⊎_elim, append_assoc, append-nil, arith}
use Rattle.sheet_format.specs.Faults.{number_of, place_of}
use Rattle.sheet_format.specs.Lines.{Line, lines_of}
use Rattle.sheet_format.specs.declared.SheetFault.{SheetFault}
use Rattle.sheet_format.specs.declared.SheetFault.TheVariants.{TooLong, BadByte, NoForm, MisplacedCipher, BodyCount, BadLength, StartDigits, RepeatedName, RepeatedStart, TooManyBlocks, ShortWorkArea}
use Rattle.sheet_laws.specs.Meets.{AtLine, Meets, turn}
use Rattle.sheet_laws.proofs.Faults.{LineMeets}
use Rattle.sheet_laws.proofs.Walk.{LineAt, EndAt, MetFrom}

-- a line further down, and the end, are met on the way
met-at-line : (n k : ℕ) (earlier mid : List Line) (l : Line) (later : List Line)
    → LineAt n k l (earlier ++ mid) → MetFrom n k earlier (mid ++ l ∷ later)
met-at-line n k earlier [] l later at = inl (subst (LineAt n k l) (append-nil earlier) at)
met-at-line n k earlier (m ∷ mid) l later at =
    inr (met-at-line n k (earlier ++ m ∷ []) mid l later (subst (LineAt n k l) (sym (append_assoc earlier (m ∷ []) mid)) at))

met-at-end : (n k : ℕ) (earlier rest : List Line) → EndAt n k (earlier ++ rest) → MetFrom n k earlier rest
met-at-end n k earlier [] at = subst (EndAt n k) (append-nil earlier) at
met-at-end n k earlier (l ∷ ls) at =
    inr (met-at-end n k (earlier ++ l ∷ []) ls (subst (EndAt n k) (sym (append_assoc earlier (l ∷ []) ls)) at))

-- what is met on the way stands at a line or at the end
abbrev Found : ℕ → ℕ → List Line → List Line → Type 0
Found n k earlier rest =
    ((mid : List Line) × (l : Line) × (later : List Line) × (rest ≡ mid ++ l ∷ later) × LineAt n k l (earlier ++ mid))
    ⊎ EndAt n k (earlier ++ rest)

found : (n k : ℕ) (earlier rest : List Line) → MetFrom n k earlier rest → Found n k earlier rest
found n k earlier [] met = inr (subst (EndAt n k) (sym (append-nil earlier)) met)
found n k earlier (l ∷ ls) met =
    ⊎_elim
    (λ here. inl ([], l, ls, refl, subst (LineAt n k l) (sym (append-nil earlier)) here))
    (λ further.
    ⊎_elim
    (λ p.
    inl (
      l ∷ p.0,
      p.1,
      p.2,
      ap (λ (xs : List Line). l ∷ xs) p.3,
      subst (LineAt n k p.1) (append_assoc earlier (l ∷ []) p.0) p.4,
    ))
    (λ p. inr (subst (EndAt n k) (append_assoc earlier (l ∷ []) ls) p))
    (found n k (earlier ++ l ∷ []) ls further))
    met

module _ (sheet : List ℕ) where
  from-line : (n k : ℕ) → AtLine sheet k (LineMeets n) → MetFrom n k [] (lines_of sheet)
  from-line n k at = subst (MetFrom n k []) (sym at.3) (met-at-line n k [] at.0 at.1 at.2 (at.4, at.5))

  from_end : (n k : ℕ) → EndAt n k (lines_of sheet) → MetFrom n k [] (lines_of sheet)
  from_end n k = met-at-end n k [] (lines_of sheet)

  to-place : (n k : ℕ) → MetFrom n k [] (lines_of sheet) → AtLine sheet k (LineMeets n) ⊎ EndAt n k (lines_of sheet)
  to-place n k met = ⊎_elim (λ p. inl (p.0, p.1, p.2, p.3, p.4.0, p.4.1)) inr (found n k [] (lines_of sheet) met)

  -- faults 3 and 4 alone can meet the end
  to-line : (n k : ℕ) → (n ≡ 3 → ⊥) → (n ≡ 4 → ⊥) → MetFrom n k [] (lines_of sheet) → AtLine sheet k (LineMeets n)
  to-line n k three four met =
      ⊎_elim (λ at. at) (λ at. ⊎_elim (λ p. absurd (three p.0)) (λ p. absurd (four p.0)) at.1) (to-place n k met)

  pub from-meets : (f : SheetFault) → 2 ≤ turn f → Meets sheet f → MetFrom (number_of f) (place_of f) [] (lines_of sheet)
  from-meets TooLong h met = absurd (omega arith)
  from-meets (BadByte k) h met = absurd (omega arith)
  from-meets (NoForm k) h met = from-line 2 k met
  from-meets (MisplacedCipher k) h met = ⊎_elim (from-line 3 k) (λ at. from_end 3 k (at.0, inl (refl, at.1))) met
  from-meets (BodyCount k) h met = ⊎_elim (from-line 4 k) (λ at. from_end 4 k (at.0, inr (refl, at.1))) met
  from-meets (BadLength k) h met = from-line 5 k met
  from-meets (StartDigits k) h met = from-line 6 k met
  from-meets (RepeatedName k) h met = from-line 7 k met
  from-meets (RepeatedStart k) h met = from-line 8 k met
  from-meets (TooManyBlocks k) h met = from-line 9 k met
  from-meets ShortWorkArea h met = absurd met

  pub to-meets : (f : SheetFault) → turn f ≡ 2 → MetFrom (number_of f) (place_of f) [] (lines_of sheet) → Meets sheet f
  to-meets TooLong h met = absurd (omega arith)
  to-meets (BadByte k) h met = absurd (omega arith)
  to-meets (NoForm k) h met = to-line 2 k (λ e. omega arith) (λ e. omega arith) met
  to-meets (MisplacedCipher k) h met =
      ⊎_elim inl (λ at. inr (at.0, ⊎_elim (λ p. p.1) (λ p. absurd (omega arith)) at.1)) (to-place 3 k met)
  to-meets (BodyCount k) h met =
      ⊎_elim inl (λ at. inr (at.0, ⊎_elim (λ p. absurd (omega arith)) (λ p. p.1) at.1)) (to-place 4 k met)
  to-meets (BadLength k) h met = to-line 5 k (λ e. omega arith) (λ e. omega arith) met
  to-meets (StartDigits k) h met = to-line 6 k (λ e. omega arith) (λ e. omega arith) met
  to-meets (RepeatedName k) h met = to-line 7 k (λ e. omega arith) (λ e. omega arith) met
  to-meets (RepeatedStart k) h met = to-line 8 k (λ e. omega arith) (λ e. omega arith) met
  to-meets (TooManyBlocks k) h met = to-line 9 k (λ e. omega arith) (λ e. omega arith) met
  to-meets ShortWorkArea h met = absurd (omega arith)
