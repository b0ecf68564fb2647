-- Layer, number and place of each fault of a set.
use Rattle.std.specs.Prelude.{ℕ}
use Rattle.fault.specs.declared.FaultCode.{FaultCode}
use Rattle.sheet_format.specs.Faults as sheet
use Rattle.set_format.specs.declared.SetFault.{SetFault}
use Rattle.set_format.specs.declared.SetFault.TheVariants.{Sheet, BlockLength, ShortContents, NoBody, TooLong, Unfinished, ShortOutput}

-- a fault of layer 3
abbrev of_set : ℕ → ℕ → FaultCode
of_set k p = record { layer = 3; number = k; place = p }

-- a sheet's fault keeps its layer and line
abbrev pub code_of : SetFault → FaultCode
code_of (Sheet f) = sheet.code_of f
code_of BlockLength = of_set 17 0
code_of ShortContents = of_set 10 1
code_of NoBody = of_set 12 0
code_of (TooLong body) = of_set 11 body
code_of (Unfinished body) = of_set 13 body
code_of (ShortOutput body) = of_set 10 body
