-- A fault as it is printed.
use Rattle.std.specs.Prelude.{ℕ, List, ◌++◌, codes, decimal}
use Rattle.fault.specs.declared.FaultCode.{FaultCode}

-- `LAYER NUMBER PLACE`
abbrev pub fault_text : FaultCode → List ℕ
fault_text c = decimal c.layer ++ (codes " " ++ (decimal c.number ++ (codes " " ++ decimal c.place)))
