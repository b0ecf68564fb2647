-- What cbc that is fed in pieces holds, by the text that it has taken in so far.
use Rattle.std.specs.Prelude.{◌≡◌, ℕ, ◌+◌, ◌*◌, ◌/◌, cond, List, [], ◌++◌, length, take, drop, Ok, Err, Result, nat_lt}
use Rattle.block.specs.Blocks.{Meaning, Lawful, Same}
use Rattle.modes_spec.specs.Cbc.{cbc_blocks, cbc_sealed}
use Rattle.modes.specs.ChainState.{ChainAt}
use Rattle.modes.specs.declared.cbc.CbcFault.{CbcFault}
use Rattle.modes.specs.declared.cbc.CbcFault.TheVariants.{ShortOutput}
use Rattle.modes.specs.declared.cbc.CbcSealer.{CbcSealer}

-- how many blocks of a text are whole
abbrev pub whole_blocks : ℕ → List ℕ → ℕ
whole_blocks n text = length text / n

-- the sealer s of a cipher that means m, begun with this register, has taken this text in; its whole blocks are chained
abbrev pub CbcAt : Meaning → List ℕ → List ℕ → CbcSealer → Type 0
CbcAt m iv text s = ChainAt m iv text (whole_blocks m.size text) s.chain

-- the cipher text of the whole blocks of a text
abbrev pub sealed_so_far : Meaning → List ℕ → List ℕ → List ℕ
sealed_so_far m iv text = cbc_blocks m iv text (whole_blocks m.size text)

-- a new one has taken nothing in, whatever the cipher
abbrev pub BegunCbc : List ℕ → CbcSealer → Type 0
BegunCbc start s = (m : Meaning) → Lawful m → CbcAt m (take m.size start) [] s

-- where s had taken a text in, s' has taken the piece in behind it, and ys is the cipher text of the blocks that became whole
abbrev pub SealedCbc : Meaning → CbcSealer → List ℕ → CbcSealer → List ℕ → Type 0
SealedCbc cipher s piece s' ys =
    (m : Meaning) (iv text : List ℕ) → Same m cipher → CbcAt m iv text s
    → CbcAt m iv (text ++ piece) s' × (sealed_so_far m iv (text ++ piece) ≡ sealed_so_far m iv text ++ ys)

-- how many bytes a piece makes whole, behind `filled` bytes of the current block
abbrev pub sealed_next : ℕ → ℕ → ℕ → ℕ
sealed_next n filled len = n * ((filled + len) / n)

-- what a call that has to write that many bytes answers
abbrev pub out_answer : ℕ → ℕ → Result ℕ CbcFault
out_answer need room = cond (nat_lt room need) (Err ShortOutput) (Ok need)

-- what a piece that is fed leaves: refused, everything as it was; else it is sealed, and the rest of the output is as it was
abbrev pub FedCbc : Meaning → CbcSealer → List ℕ → List ℕ → Result ℕ CbcFault → CbcSealer → List ℕ → Type 0
FedCbc cipher s piece out (Ok k) s' out' = SealedCbc cipher s piece s' (take k out') × (drop k out' ≡ drop k out)
FedCbc cipher s piece out (Err f) s' out' = (s' ≡ s) × (out' ≡ out)

-- the end: refused, the output is as it was; else its front is the filled block's cipher text, which ends that of the whole text
abbrev pub FinishedCbc : Meaning → CbcSealer → List ℕ → Result ℕ CbcFault → List ℕ → Type 0
FinishedCbc cipher s out (Ok k) out' =
    ((m : Meaning) (iv text : List ℕ) → Same m cipher → CbcAt m iv text s → cbc_sealed m iv text ≡ sealed_so_far m iv text ++ take k out') × (drop k out' ≡ drop k out)
FinishedCbc cipher s out (Err f) out' = out' ≡ out
