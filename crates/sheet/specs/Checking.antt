-- The work area after `check`, and the first part of a check: length and bytes.
use Rattle.std.specs.Prelude.{ℕ, min, cond, List, ◌++◌, length, drop, replicate, Ok, Result, nat_lt}
use Rattle.sheet_format.specs.Orders.{byte_fault, bad_line, length_fault, unless}
use Rattle.sheet_format.specs.declared.SheetFault.{SheetFault}

-- zeros in the first 1,792 bytes
abbrev pub cleared_front : List ℕ → List ℕ
cleared_front area = replicate (min 1792 (length area)) 0 ++ drop 1792 area

-- the work area after `check`: a shorter one is untouched
abbrev pub after_check : List ℕ → List ℕ
after_check area = cond (nat_lt (length area) 1792) area (cleared_front area)

abbrev pub allowed_or_fault : List ℕ → Result (Unit {0}) SheetFault
allowed_or_fault sheet = unless (length_fault sheet) (unless (byte_fault (bad_line 1 sheet)) (Ok tt))
