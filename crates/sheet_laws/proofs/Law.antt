-- What a sheet orders, or its fault, keeps the law of answers.
use Rattle.std.proofs.Common.{◌≡◌, ℕ, List, Ok, Err, Result, refl}
use Rattle.sheet_format.specs.Orders.{summary, map_ok, order_of}
use Rattle.sheet_laws.specs.CheckLaw.{CheckLaw}
use Rattle.sheet_laws.specs.Grammar.{Iff}
use Rattle.sheet_laws.proofs.Clash.{clash}
use Rattle.sheet_laws.proofs.Passing.{orders-if-passes}
use Rattle.sheet_laws.proofs.Refusals.{refused-by-first, orders-if-none-meets}

module _ {A B E : Type 0} (f : A → B) where
  map-ok : (r : Result A E) (b : B) → Iff (map_ok f r ≡ Ok b) ((a : A) × (r ≡ Ok a) × (b ≡ f a))
  map-ok (Ok a) b = (λ e. (a, refl, cc), λ p. let e = p.1 in let s = p.2 in cc)
  map-ok (Err d) b = (λ e. clash (cc), λ p. let e = p.1 in clash (cc))

  map-err : (r : Result A E) (d : E) → Iff (map_ok f r ≡ Err d) (r ≡ Err d)
  map-err (Ok a) d = (λ e. clash (cc), λ e. clash (cc))
  map-err (Err c) d = (λ e. cc, λ e. cc)

pub keeps-the-law : (sheet : List ℕ) → CheckLaw sheet (map_ok summary (order_of sheet))
keeps-the-law sheet =
    let ok = map-ok summary (order_of sheet) in
    let err = map-err summary (order_of sheet) in
    let passing = orders-if-passes sheet in
    let none = orders-if-none-meets sheet in
    record {
      passes = λ a. (
        λ e. let p = (ok a).0 e in (p.0, (passing p.0).0 p.1, p.2),
        λ p. (ok a).1 (p.0, (passing p.0).1 p.1, p.2),
      );
      refuses = λ f. (λ e. (refused-by-first sheet f).0 ((err f).0 e), λ first. (err f).1 ((refused-by-first sheet f).1 first));
      clean = (
        λ p. none.0 (p.0, (passing p.0).1 p.1),
        λ h. let p = none.1 h in (p.0, (passing p.0).0 p.1),
      );
    }
