-- Layer, number and place of the fault of contents.
use Rattle.std.specs.Prelude.{ℕ}
use Rattle.fault.specs.declared.FaultCode.{FaultCode}
use Rattle.contents_format.specs.declared.ContentsFault.{ContentsFault}
use Rattle.contents_format.specs.declared.ContentsFault.TheVariants.{Header, Entry}

-- the number of the first entry that is refused, or 0 where the header or the total length is
abbrev pub place_of : ContentsFault → ℕ
place_of Header = 0
place_of (Entry k) = k

-- fault 14 of layer 4
abbrev pub code_of : ContentsFault → FaultCode
code_of f = record { layer = 4; number = 14; place = place_of f }
