-- A sheet is refused for the first fault that meets it, and orders something where none does.
use Rattle.std.proofs.Common.{◌≡◌, ℕ, ◌+◌, ◌<◌, ◌≤◌, true, false, ltb, List, [], length, Some, None, Ok, Err, Option, Result, sym, refl, ap, ◌∙◌, subst, ⊎_elim, arith}
use Rattle.std.proofs.lemmas.Bool.{cases_Bool, cases_eq, ltb-true, ltb-false}
use Rattle.sheet_format.specs.Faults.{number_of, place_of}
use Rattle.sheet_format.specs.Lines.{lines_of}
use Rattle.sheet_format.specs.Orders.{Order, unless, length_fault, byte_fault, bad_line, order_from, order_of}
use Rattle.sheet_format.specs.declared.SheetFault.{SheetFault}
use Rattle.sheet_format.specs.declared.SheetFault.TheVariants.{BadByte}
use Rattle.sheet_laws.specs.Meets.{endings, Meets, turn, Sooner, FirstMet, NoneMeets, RefusedByFirst, OrdersIfNoneMeets}
use Rattle.sheet_laws.proofs.Bytes.{BadLineTells, bad-line-tells, one-front, not-all-allowed}
use Rattle.sheet_laws.proofs.Faults.{turn-0, turn-1, one-sooner}
use Rattle.sheet_laws.proofs.Places.{from-meets, to-meets}
use Rattle.sheet_laws.proofs.Walk.{LinesTell, lines-tell}

module _ (sheet : List ℕ) where
  -- what an answer tells of the faults from turn t on
  abbrev TellsFrom : ℕ → Result Order SheetFault → Type 0
  TellsFrom t (Ok o) = (f : SheetFault) → t ≤ turn f → Meets sheet f → ⊥
  TellsFrom t (Err f) = Meets sheet f × (t ≤ turn f) × ((g : SheetFault) → t ≤ turn g → Sooner g f → Meets sheet g → ⊥)

  -- what is found at turn t: the one fault of that turn that meets the sheet, or that none does
  abbrev TurnTells : ℕ → Option SheetFault → Type 0
  TurnTells t None = (f : SheetFault) → turn f ≡ t → Meets sheet f → ⊥
  TurnTells t (Some f) = Meets sheet f × (turn f ≡ t) × ((g : SheetFault) → turn g ≡ t → Meets sheet g → g ≡ f)

  -- one turn, and then those after it
  one-turn : (t : ℕ) (o : Option SheetFault) (r : Result Order SheetFault) → TurnTells t o → TellsFrom (t + 1) r → TellsFrom t (unless o r)
  one-turn t None (Ok x) none more =
      λ f h met. ⊎_elim (λ e. none f e met) (λ d. more f (omega arith) met) (cases_eq (turn f) t)
  one-turn t None (Err f) none more =
      let h' = more.1 in
      (more.0, omega arith, λ g h sooner met. ⊎_elim (λ e. none g e met) (λ d. more.2 g (omega arith) sooner met) (cases_eq (turn g) t))
  one-turn t (Some f) r found more =
      let at = found.1 in (
        found.0,
        omega arith,
        λ g h sooner met.
            ⊎_elim (λ s. omega arith)
            (λ s.
            let e = found.2 g (s.0 ∙ at) met in
            let place = ap place_of e in
            let number = ap number_of e in
            ⊎_elim (λ p. omega arith) (λ p. omega arith) s.1)
            sooner,
      )

  length-tells : TurnTells 0 (length_fault sheet)
  length-tells =
      ⊎_elim
      (λ (t : ltb 4096 (length sheet) ≡ true). rw t (ltb-true 4096 (length sheet) t, refl, λ g e met. turn-0 g e))
      (λ (t : ltb 4096 (length sheet) ≡ false). rw t (λ f e met.
      let long : 4096 < length sheet = subst (Meets sheet) (turn-0 f e) met in
      let short = ltb-false 4096 (length sheet) t in
      omega arith))
      (cases_Bool (ltb 4096 (length sheet)))

  byte-tells : (o : Option ℕ) → BadLineTells 1 sheet o → TurnTells 1 (byte_fault o)
  byte-tells None all = λ f e met. not-all-allowed sheet 1 (place_of f) (subst (Meets sheet) (turn-1 f e) met) all
  byte-tells (Some j) first = (
    first,
    refl,
    λ g e met.
        let bad = subst (Meets sheet) (turn-1 g e) met in
        let front = one-front bad.0 first.0 bad.1 first.1 bad.2 first.2 (sym bad.3 ∙ first.3) bad.4 first.4 bad.5 first.5 in
        let place : place_of g ≡ j = bad.6 ∙ (ap (λ xs. endings xs + 1) front ∙ sym first.6) in
        turn-1 g e ∙ ap BadByte place,
  )

  rest-tells : (r : Result Order SheetFault) → LinesTell [] (lines_of sheet) r → TellsFrom 2 r
  rest-tells (Ok o) none = λ f h met. none (number_of f) (place_of f) (from-meets sheet f h met)
  rest-tells (Err f) first =
      let two = first.1 in (
        to-meets sheet f two first.0,
        omega arith,
        λ g h sooner met.
            ⊎_elim (λ s. omega arith)
            (λ s. first.2 (number_of g) (place_of g) s.1 (from-meets sheet g h met))
            sooner,
      )

  order-tells : TellsFrom 0 (order_of sheet)
  order-tells =
      one-turn 0 (length_fault sheet) (unless (byte_fault (bad_line 1 sheet)) (order_from [] (lines_of sheet))) length-tells
      (one-turn 1 (byte_fault (bad_line 1 sheet)) (order_from [] (lines_of sheet)) (byte-tells (bad_line 1 sheet) (bad-line-tells 1 sheet))
      (rest-tells (order_from [] (lines_of sheet)) (lines-tell [] (lines_of sheet))))

  -- a sheet has one first fault
  one-first : (f g : SheetFault) → FirstMet sheet f → FirstMet sheet g → f ≡ g
  one-first f g first first' =
      ⊎_elim (λ e. e)
      (⊎_elim (λ s. absurd (first'.1 f s first.0)) (λ s. absurd (first.1 g s first'.0)))
      (one-sooner f g)

  met-is-answer : (r : Result Order SheetFault) (f : SheetFault) → TellsFrom 0 r → FirstMet sheet f → r ≡ Err f
  met-is-answer (Ok o) f none first = absurd (none f (omega arith) first.0)
  met-is-answer (Err g) f tells first =
      ap Err (one-first g f (tells.0, λ h sooner. tells.2 h (omega arith) sooner) first)

  none-is-order : (r : Result Order SheetFault) → TellsFrom 0 r → NoneMeets sheet → (o : Order) × (r ≡ Ok o)
  none-is-order (Ok o) tells none = (o, refl)
  none-is-order (Err f) tells none = absurd (none f tells.0)

pub refused-by-first : RefusedByFirst
refused-by-first sheet f = (
  (λ e. let tells = subst (TellsFrom sheet 0) e (order-tells sheet) in (tells.0, λ g sooner. tells.2 g (omega arith) sooner)),
  met-is-answer sheet (order_of sheet) f (order-tells sheet),
)

pub orders-if-none-meets : OrdersIfNoneMeets
orders-if-none-meets sheet = (
  (λ p f. subst (TellsFrom sheet 0) p.1 (order-tells sheet) f (omega arith)),
  none-is-order sheet (order_of sheet) (order-tells sheet),
)
