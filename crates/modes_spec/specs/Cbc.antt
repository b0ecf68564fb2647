-- Cipher block chaining, cbc, of GOST R 34.13-2015, with a register of one block.
use Rattle.std.specs.Prelude.{ℕ, zero, suc, ◌+◌, ◌/◌, List, length}
use Rattle.block.specs.Blocks.{Meaning}
use Rattle.modes_spec.specs.Texts.{◌⊕◌, block_at, joined_to, filled}

-- C_i: C_0 is the register's first value, and C_(i+1) = E(P_(i+1) ⊕ C_i); P_(i+1) is the text's block at place i
unfoldable pub chained : Meaning → List ℕ → List ℕ → ℕ → List ℕ
chained m iv text zero = iv
chained m iv text (suc i) = m.forward (block_at m.size text i ⊕ chained m iv text i)

-- C_1 to C_q
abbrev pub cbc_blocks : Meaning → List ℕ → List ℕ → ℕ → List ℕ
cbc_blocks m iv text q = joined_to (λ i. chained m iv text (suc i)) q

-- a body of length L is filled by procedure 2 and has L div n + 1 blocks
abbrev pub cbc_sealed : Meaning → List ℕ → List ℕ → List ℕ
cbc_sealed m iv text = cbc_blocks m iv (filled m.size text) (length text / m.size + 1)

-- C_i of a cipher text
abbrev pub register_at : ℕ → List ℕ → List ℕ → ℕ → List ℕ
register_at n iv text zero = iv
register_at n iv text (suc i) = block_at n text i

-- P_(i+1) = D(C_(i+1)) ⊕ C_i
abbrev pub opened_block : Meaning → List ℕ → List ℕ → ℕ → List ℕ
opened_block m iv text i = m.inverse (block_at m.size text i) ⊕ register_at m.size iv text i

-- P_1 to P_q
abbrev pub opened_blocks : Meaning → List ℕ → List ℕ → ℕ → List ℕ
opened_blocks m iv text q = joined_to (opened_block m iv text) q

-- a cipher text of whole blocks opened: the filled text
abbrev pub cbc_opened : Meaning → List ℕ → List ℕ → List ℕ
cbc_opened m iv text = opened_blocks m iv text (length text / m.size)
