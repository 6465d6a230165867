-- The limits of settings (this project's own): 1 to 64 workers, and a table of 2 ^ k slots with k up to 22.
use Rattle.std.specs.Prelude.{ℕ, ◌≤◌}
use Rattle.shape_core.specs.declared.words.Kinds.{Kinds}

pub record Limits : Type 0 where
  pub workers : ℕ
  pub k : ℕ
  pub kinds : Kinds

pub record AreLimits (limits : Limits) : Type 0 where
  pub some_workers : 1 ≤ limits.workers
  pub few_workers : limits.workers ≤ 64
  pub small_table : limits.k ≤ 22
