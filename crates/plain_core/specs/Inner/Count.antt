-- How often one pattern was counted.
use Rattle.std.specs.Prelude.{ℕ, Option}

-- how often it was there and was played, and the first game that had it, where games have numbers
pub record Count : Type 0 where
  pub there : ℕ
  pub played : ℕ
  pub first : Option ℕ
