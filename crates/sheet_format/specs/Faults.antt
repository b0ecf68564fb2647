-- Layer, number and place of each fault of a sheet.
use Rattle.std.specs.Prelude.{ℕ}
use Rattle.fault.specs.declared.FaultCode.{FaultCode}
use Rattle.sheet_format.specs.declared.SheetFault.{SheetFault}
use Rattle.sheet_format.specs.declared.SheetFault.TheVariants.{TooLong, BadByte, NoForm, MisplacedCipher, BodyCount, BadLength, StartDigits, RepeatedName, RepeatedStart, TooManyBlocks, ShortWorkArea}

abbrev pub number_of : SheetFault → ℕ
number_of TooLong = 1
number_of (BadByte line) = 1
number_of (NoForm line) = 2
number_of (MisplacedCipher line) = 3
number_of (BodyCount line) = 4
number_of (BadLength line) = 5
number_of (StartDigits line) = 6
number_of (RepeatedName line) = 7
number_of (RepeatedStart line) = 8
number_of (TooManyBlocks line) = 9
number_of ShortWorkArea = 10

-- the line, or 0 where the whole sheet or the work area is meant
abbrev pub place_of : SheetFault → ℕ
place_of TooLong = 0
place_of (BadByte line) = line
place_of (NoForm line) = line
place_of (MisplacedCipher line) = line
place_of (BodyCount line) = line
place_of (BadLength line) = line
place_of (StartDigits line) = line
place_of (RepeatedName line) = line
place_of (RepeatedStart line) = line
place_of (TooManyBlocks line) = line
place_of ShortWorkArea = 0

-- every fault of a sheet is of layer 2
abbrev pub code_of : SheetFault → FaultCode
code_of f = record { layer = 2; number = number_of f; place = place_of f }
