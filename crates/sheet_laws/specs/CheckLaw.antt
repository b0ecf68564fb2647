-- The law of an answer to a sheet: when it is Ok and with what, and when it is which fault.
use Rattle.std.specs.Prelude.{◌≡◌, ℕ, List, Ok, Err, Result}
use Rattle.sheet_format.specs.Orders.{Order, summary}
use Rattle.sheet_format.specs.declared.Checked.{Checked}
use Rattle.sheet_format.specs.declared.SheetFault.{SheetFault}
use Rattle.sheet_laws.specs.Grammar.{Iff}
use Rattle.sheet_laws.specs.Meets.{FirstMet, NoneMeets}
use Rattle.sheet_laws.specs.Passes.{Passes}

-- what an answer r to a sheet has to be
pub record CheckLaw (sheet : List ℕ) (r : Result Checked SheetFault) : Type 0 where
  -- Ok exactly for the sheets that pass, with the summary of what they order
  pub passes : (a : Checked) → Iff (r ≡ Ok a) ((o : Order) × Passes sheet o × (a ≡ summary o))
  -- a fault exactly where it is the first that meets the sheet
  pub refuses : (f : SheetFault) → Iff (r ≡ Err f) (FirstMet sheet f)
  -- a sheet passes exactly where no fault meets it
  pub clean : Iff ((o : Order) × Passes sheet o) (NoneMeets sheet)
