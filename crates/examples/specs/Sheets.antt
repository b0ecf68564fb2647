-- Worked examples of order sheets: whole sheet texts, with what `check` answers to each by its definition.
use Rattle.std.specs.Prelude.{◌≡◌, ℕ, List, ◌++◌, Ok, Err, codes}
use Rattle.sheet_format.specs.Faults.{code_of}
use Rattle.sheet_format.specs.Orders.{checked_of}
use Rattle.sheet_format.specs.declared.SheetFault.{SheetFault}
use Rattle.sheet_format.specs.declared.SheetFault.TheVariants.{BadLength, TooManyBlocks}

-- with a work area of 1,792 bytes the sheet passes, with n, the number of bodies and the number of blocks
abbrev pub PassesWith : List ℕ → ℕ → ℕ → ℕ → Type 0
PassesWith sheet n bodies blocks = checked_of 1792 sheet ≡ Ok (record { block_length = n; bodies = bodies; blocks = blocks })

-- the sheet is refused for the fault, which has that number and place, in layer 2
abbrev pub RefusedFor : List ℕ → SheetFault → ℕ → ℕ → Type 0
RefusedFor sheet f number place = (checked_of 1792 sheet ≡ Err f) × (code_of f ≡ record { layer = 2; number = number; place = place })

-- one body under `c kuz`
abbrev pub one : List ℕ → List ℕ
one line = codes "c kuz\n" ++ line

-- fifteen ctr bodies of 1,048,576 bytes under `c kuz`, and what follows them
abbrev pub fifteen_and : List ℕ → List ℕ
fifteen_and last =
    codes "c kuz\n"
    ++ (codes "b ctr 0000000000000001 1048576 stage-01.dwg\n"
    ++ (codes "b ctr 0000000000000002 1048576 stage-02.dwg\n"
    ++ (codes "b ctr 0000000000000003 1048576 stage-03.dwg\n"
    ++ (codes "b ctr 0000000000000004 1048576 stage-04.dwg\n"
    ++ (codes "b ctr 0000000000000005 1048576 stage-05.dwg\n"
    ++ (codes "b ctr 0000000000000006 1048576 stage-06.dwg\n"
    ++ (codes "b ctr 0000000000000007 1048576 stage-07.dwg\n"
    ++ (codes "b ctr 0000000000000008 1048576 stage-08.dwg\n"
    ++ (codes "b ctr 0000000000000009 1048576 stage-09.dwg\n"
    ++ (codes "b ctr 000000000000000a 1048576 stage-10.dwg\n"
    ++ (codes "b ctr 000000000000000b 1048576 stage-11.dwg\n"
    ++ (codes "b ctr 000000000000000c 1048576 stage-12.dwg\n"
    ++ (codes "b ctr 000000000000000d 1048576 stage-13.dwg\n"
    ++ (codes "b ctr 000000000000000e 1048576 stage-14.dwg\n"
    ++ (codes "b ctr 000000000000000f 1048576 stage-15.dwg\n"
    ++ last)))))))))))))))

pub record SheetExamples : Type 0 where
  -- a body of length 0 has no block in ctr, and one in cbc
  pub empty-ctr : PassesWith (one (codes "b ctr 1234567890abcef0 0 empty.txt\n")) 16 1 0
  pub empty-cbc : PassesWith (one (codes "b cbc 1234567890abcef0a1b2c3d4e5f00112 0 empty.txt\n")) 16 1 1
  -- 1,048,576 bytes are the most
  pub longest : PassesWith (one (codes "b ctr 1234567890abcef0 1048576 plan.dwg\n")) 16 1 65536
  pub too_long : RefusedFor (one (codes "b ctr 1234567890abcef0 1048577 plan.dwg\n")) (BadLength 2) 5 2
  -- 1,000,000 blocks are the most
  pub most-blocks : PassesWith (fifteen_and (codes "b ctr 0000000000000010 271360 stage-16.dwg\n")) 16 16 1000000
  pub too_many_blocks : RefusedFor (fifteen_and (codes "b ctr 0000000000000010 271361 stage-16.dwg\n")) (TooManyBlocks 17) 9 17
