-- For a case that cannot be.
use Rattle.std.proofs.Common.{◌≡◌, ℕ, arith}

-- `clash (cc)`, where two constructors would be equal
pub clash : {P : Type 0} → ◌≡◌ {A = ℕ} 0 1 → P
clash z = absurd (omega arith)
