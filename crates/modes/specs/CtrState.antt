-- What a ctr stream holds, by the bytes that it has taken in so far.
use Rattle.std.specs.Prelude.{◌≡◌, ℕ, ◌+◌, ◌-◌, ◌*◌, ◌/◌, ◌%◌, ◌^◌, ◌<◌, min, List, [], ◌++◌, length, take}
use Rattle.block.specs.Blocks.{Block, Meaning, Lawful, Same}
use Rattle.modes_spec.specs.Ctr.{counter_stream, ctr}
use Rattle.modes.specs.declared.ctr.CtrStream.{CtrStream}

-- the stream s of a cipher that means m, with this START, has taken these bytes in
pub record CtrAt (m : Meaning) (start taken : List ℕ) (s : CtrStream) : Type 0 where
  pub lawful : Lawful m
  pub begun : Block (m.size / 2) start
  pub held : take (m.size / 2) s.start ≡ start
  pub long : length s.keystream ≡ 16
  -- how many blocks of the keystream were made; their number is counted modulo 2^64, of which a counter block shows n/2 bytes
  pub made : ℕ
  pub counted : s.next ≡ made % 2 ^ 64
  pub placed : length taken + m.size ≡ m.size * made + min s.used m.size
  pub current : s.used < m.size → take m.size s.keystream ≡ counter_stream m start (made - 1)

-- a new stream has taken nothing in, whatever the cipher
abbrev pub BegunCtr : List ℕ → CtrStream → Type 0
BegunCtr start s = (m : Meaning) → Lawful m → CtrAt m (take (m.size / 2) start) [] s

-- where the stream s had taken some bytes in, s' has taken xs in behind them, and ys is what ctr makes of xs there
abbrev pub JoinedCtr : Meaning → CtrStream → List ℕ → CtrStream → List ℕ → Type 0
JoinedCtr cipher s xs s' ys =
    (m : Meaning) (start taken : List ℕ) → Same m cipher → CtrAt m start taken s
    → CtrAt m start (taken ++ xs) s' × (ctr m start (taken ++ xs) ≡ ctr m start taken ++ ys)
