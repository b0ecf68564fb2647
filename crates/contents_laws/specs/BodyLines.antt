-- The body lines of a sheet that passes.
use Rattle.std.specs.Prelude.{◌≡◌, ℕ, ◌≤◌, true, List, length}
use Rattle.std.specs.List.{AllByRecursion}
use Rattle.sheet_format.specs.Lines.{Body, is_name, is_start}
use Rattle.sheet_format.specs.Sizes.{start_digits}

-- what the line of a body keeps, for the block length n
pub record FitLine (n : ℕ) (b : Body) : Type 0 where
  pub start : is_start b.start ≡ true
  pub named : is_name b.name ≡ true
  pub limit : b.len.value ≤ 1048576
  pub digits : length b.start ≡ start_digits b.mode n

pub record FitLines (n : ℕ) (bs : List Body) : Type 0 where
  pub few : length bs ≤ 32
  pub each : AllByRecursion (FitLine n) bs
