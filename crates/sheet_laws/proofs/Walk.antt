-- What going through the lines from the top finds: the first fault that meets a line or the end, or that none does.
use Rattle.std.proofs.Common.{◌≡◌, ℕ, ◌+◌, ◌<◌, ◌⊎◌, List, [], ◌∷◌, ◌++◌, length, Some, None, Ok, Err, Option, Result, refl, inl, inr, ⊎_elim, arith}
use Rattle.std.proofs.lemmas.List.{length_push}
use Rattle.sheet_format.specs.Faults.{number_of, place_of}
use Rattle.sheet_format.specs.Lines.{Body, Line}
use Rattle.sheet_format.specs.Orders.{Order, ciphers_in, bodies_in, unless, order_at_end, order_from, line_fault}
use Rattle.sheet_format.specs.declared.CipherKind.{CipherKind}
use Rattle.sheet_format.specs.declared.SheetFault.{SheetFault}
use Rattle.sheet_laws.specs.Meets.{turn}
use Rattle.sheet_laws.proofs.Clash.{clash}
use Rattle.sheet_laws.proofs.Faults.{LineMeets, FirstFrom, first-of-line}

-- what the fault of a number says of the end of a sheet
abbrev pub EndMeets : ℕ → List Line → Type 0
EndMeets n lines = ((n ≡ 3) × (ciphers_in lines ≡ [])) ⊎ ((n ≡ 4) × (bodies_in lines ≡ []))

-- fault n meets the line k that comes after these, or the end that does
abbrev pub LineAt : ℕ → ℕ → Line → List Line → Type 0
LineAt n k l earlier = (k ≡ length earlier + 1) × LineMeets n earlier l

abbrev pub EndAt : ℕ → ℕ → List Line → Type 0
EndAt n k lines = (k ≡ length lines + 1) × EndMeets n lines

-- fault n meets line k or the end, among the lines still to come
abbrev pub MetFrom : ℕ → ℕ → List Line → List Line → Type 0
MetFrom n k earlier [] = EndAt n k earlier
MetFrom n k earlier (l ∷ ls) = LineAt n k l earlier ⊎ MetFrom n k (earlier ++ l ∷ []) ls

-- the lines still to come are not among the earlier ones
met-after : (n k : ℕ) (earlier rest : List Line) → MetFrom n k earlier rest → length earlier < k
met-after n k earlier [] met = omega arith
met-after n k earlier (l ∷ ls) met =
    ⊎_elim
    (λ here. omega arith)
    (λ later. let h = met-after n k (earlier ++ l ∷ []) ls later in omega (arith, length_push earlier l))
    met

-- what an answer tells of the lines still to come
abbrev pub LinesTell : List Line → List Line → Result Order SheetFault → Type 0
LinesTell earlier rest (Ok o) = (n k : ℕ) → MetFrom n k earlier rest → ⊥
LinesTell earlier rest (Err f) =
    MetFrom (number_of f) (place_of f) earlier rest × (turn f ≡ 2)
    × ((n k : ℕ) → (k < place_of f) ⊎ ((k ≡ place_of f) × (n < number_of f)) → MetFrom n k earlier rest → ⊥)

end-tells : (earlier : List Line) (cs : List CipherKind) (bs : List Body) → ciphers_in earlier ≡ cs → bodies_in earlier ≡ bs
    → LinesTell earlier [] (order_at_end (length earlier + 1) cs bs)
end-tells earlier [] bs c b = (
  (refl, inl (refl, c)),
  refl,
  λ n k sooner met.
      ⊎_elim
      (λ h. ⊎_elim (λ s. omega arith) (λ s. omega arith) sooner)
      (λ h. ⊎_elim (λ s. omega arith) (λ s. omega arith) sooner)
      met.1,
)
end-tells earlier (c ∷ cs) [] e b = (
  (refl, inr (refl, b)),
  refl,
  λ n k sooner met.
      ⊎_elim (λ h. clash (cc)) (λ h. ⊎_elim (λ s. omega arith) (λ s. omega arith) sooner) met.1,
)
end-tells earlier (c ∷ cs) (b ∷ bs) e f =
    λ n k met. ⊎_elim (λ h. clash (cc)) (λ h. clash (cc)) met.1

-- one line, and then those after it
line-tells : (earlier : List Line) (l : Line) (ls : List Line) (o : Option SheetFault) (r : Result Order SheetFault)
    → FirstFrom 0 (length earlier + 1) earlier l o → LinesTell (earlier ++ l ∷ []) ls r → LinesTell earlier (l ∷ ls) (unless o r)
line-tells earlier l ls None (Ok x) first later = λ n k. ⊎_elim (λ here. first n (omega arith) here.1) (later n k)
line-tells earlier l ls None (Err f) first later =
    (inr later.0, later.1, λ n k sooner. ⊎_elim (λ here. first n (omega arith) here.1) (later.2 n k sooner))
line-tells earlier l ls (Some f) r first later = (
  inl (first.1, first.0),
  first.2,
  λ n k sooner.
      ⊎_elim
      (λ here. ⊎_elim (λ s. omega arith) (λ s. first.3 n (omega arith) s.1 here.1) sooner)
      (λ met.
      let after = met-after n k (earlier ++ l ∷ []) ls met in
      let longer = length_push earlier l in
      ⊎_elim (λ s. omega arith) (λ s. omega arith) sooner),
)

pub lines-tell : (earlier rest : List Line) → LinesTell earlier rest (order_from earlier rest)
lines-tell earlier [] = end-tells earlier (ciphers_in earlier) (bodies_in earlier) refl refl
lines-tell earlier (l ∷ ls) =
    line-tells earlier l ls (line_fault (length earlier + 1) earlier l) (order_from (earlier ++ l ∷ []) ls)
    (first-of-line (length earlier + 1) earlier l) (lines-tell (earlier ++ l ∷ []) ls)
