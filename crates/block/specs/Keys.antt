-- Key texts, and layer, number and place of the faults of blocks and keys.
use Rattle.std.specs.Prelude.{ℕ, cond, ◌&&◌, List, length, Ok, Err, Result, ◌==◌}
use Rattle.fault.specs.declared.FaultCode.{FaultCode}
use Rattle.hex_digits.specs.Hex.{all_hex_digits, hex_bytes}
use Rattle.block.specs.declared.BlockFault.{BlockFault}
use Rattle.block.specs.declared.BlockFault.TheVariants.{BlockLength, KeyText}

-- the 32 bytes that 64 digits mean
abbrev pub key_of : List ℕ → Result (List ℕ) BlockFault
key_of text = cond (length text == 64 && all_hex_digits text) (Ok (hex_bytes text)) (Err KeyText)

-- layer 1, place 0
abbrev pub code_of : BlockFault → FaultCode
code_of BlockLength = record { layer = 1; number = 18; place = 0 }
code_of KeyText = record { layer = 1; number = 19; place = 0 }
