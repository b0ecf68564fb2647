-- One line more: what it does to the state of `check`.
use Rattle.std.proofs.Common.{◌≡◌, ℕ, ◌+◌, ◌≤◌, true, not, List, [], ◌∷◌, ◌++◌, map, is_some, Some, None, Ok, Err, Option, sym, refl, ap, ◌∙◌, subst, ap₂, append-nil, arith}
use Rattle.std.specs.Option.{option_to_list}
use Rattle.sheet_format.specs.Lines.{Body, blank, comment, cipher, body, Line}
use Rattle.sheet_format.specs.Orders.{ciphers_in, cipher_named, bodies_in, body_named, none_counts, ordered, total_blocks, unless}
use Rattle.sheet_format.specs.Sizes.{blocks_of}
use Rattle.sheet_format.specs.declared.CipherKind.{CipherKind}
use Rattle.sheet_format.specs.declared.SheetFault.{SheetFault}
use Rattle.sheet_laws.proofs.Clash.{clash}
use Rattle.sheet_laws.proofs.Passing.{joined-push, none_counts-push}
use Rattle.std.proofs.Math.Bool.{and-false}
use Rattle.sheet.specs.Kept.{Keeps}
use Rattle.sheet.specs.declared.kept.Kept.{Kept}
use Rattle.sheet.specs.Progress.{blocks_for, Stands}
use Rattle.sheet.specs.declared.progress.Progress.{Progress}

pub blocks-push : (n : ℕ) (bs : List Body) (b : Body)
    → total_blocks n (map ordered (bs ++ b ∷ [])) ≡ total_blocks n (map ordered bs) + blocks_of b.mode n b.len.value
blocks-push n [] b = omega arith
blocks-push n (x ∷ bs) b = let e = blocks-push n bs b in omega (arith, e)

-- no body stands among lines that do not count
no-bodies : (earlier : List Line) → none_counts earlier ≡ true → bodies_in earlier ≡ []
no-bodies [] e = refl
no-bodies (None ∷ ls) e = clash (cc)
no-bodies (Some blank ∷ ls) e = no-bodies ls e
no-bodies (Some comment ∷ ls) e = no-bodies ls e
no-bodies (Some (cipher c) ∷ ls) e = clash (cc)
no-bodies (Some (body b) ∷ ls) e = clash (cc)

module _ (p : Progress) (earlier : List Line) (st : Stands p earlier) where
  -- the cipher line
  pub stands-cipher : (c : CipherKind) → p.cipher ≡ None
      → Stands (record { cipher = Some c; blocks = p.blocks; kept = p.kept }) (earlier ++ Some (cipher c) ∷ [])
  stands-cipher c e =
      let none : ciphers_in earlier ≡ [] = st.named ∙ ap option_to_list e in
      let nobody : bodies_in earlier ≡ [] = no-bodies earlier (st.uncounted ∙ ap (λ (o : Option CipherKind). not (is_some o)) e) in
      let cs : ciphers_in (earlier ++ Some (cipher c) ∷ []) ≡ c ∷ [] =
      joined-push cipher_named earlier (Some (cipher c)) ∙ ap (λ (xs : List CipherKind). xs ++ c ∷ []) none in
      let bs : bodies_in (earlier ++ Some (cipher c) ∷ []) ≡ [] =
      joined-push body_named earlier (Some (cipher c)) ∙ append-nil (bodies_in earlier) ∙ nobody in
      record {
        named = cs;
        uncounted = none_counts-push earlier (Some (cipher c)) ∙ and-false (none_counts earlier);
        summed = st.summed ∙ ap₂ blocks_for none nobody ∙ sym (ap₂ blocks_for cs bs);
        limited = st.limited;
        kept = subst (Keeps p.kept) (nobody ∙ sym bs) st.kept;
      }

  -- a body line
  pub stands-body : (b : Body) (left : Kept) (total : ℕ) → is_some p.cipher ≡ true → total ≤ 1000000
      → total ≡ blocks_for (ciphers_in earlier) (bodies_in earlier ++ b ∷ []) → Keeps left (bodies_in earlier ++ b ∷ [])
      → Stands (record { cipher = p.cipher; blocks = total; kept = left }) (earlier ++ Some (body b) ∷ [])
  stands-body b left total some limit sum keeps =
      let cs : ciphers_in (earlier ++ Some (body b) ∷ []) ≡ ciphers_in earlier =
      joined-push cipher_named earlier (Some (body b)) ∙ append-nil (ciphers_in earlier) in
      let bs : bodies_in (earlier ++ Some (body b) ∷ []) ≡ bodies_in earlier ++ b ∷ [] = joined-push body_named earlier (Some (body b)) in
      record {
        named = cs ∙ st.named;
        uncounted = none_counts-push earlier (Some (body b)) ∙ and-false (none_counts earlier) ∙ sym (ap not some);
        summed = sum ∙ sym (ap₂ blocks_for cs bs);
        limited = limit;
        kept = subst (Keeps left) (sym bs) keeps;
      }

-- what an answer to a body line tells of its fault
pub admitted-ok : (o : Option SheetFault) (x y : ℕ) → Ok y ≡ unless o (Ok x) → (o ≡ None) × (y ≡ x)
admitted-ok None x y e = (refl, cc)
admitted-ok (Some f) x y e = clash (cc)

pub admitted-err : (o : Option SheetFault) (x : ℕ) (f : SheetFault) → Err f ≡ unless {A = ℕ} o (Ok x) → o ≡ Some f
admitted-err None x f e = clash (cc)
admitted-err (Some g) x f e = cc
