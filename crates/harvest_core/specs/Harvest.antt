-- What is counted of an input with at most n patterns.
use Rattle.std.specs.Prelude.{ℕ, ◌≤◌, List, length}
use Rattle.shape_core.specs.declared.words.Kinds.{Kinds}
use Rattle.tally_core.specs.Counted.{IsCounted}
use Rattle.tally_core.specs.declared.collections.Counted.{Counted}
pub use Rattle.beyond_core.specs.Refused.{IsCountRefused, IsRead, IsHarvestRefused}

-- the input's games were counted, as one thread counts them, and have at most n patterns
pub record IsCountedWithin (n : ℕ) (kinds : Kinds) (bytes : List ℕ) (counted : Counted) : Type 0 where
  pub counted_is : IsCounted kinds bytes counted
  pub few : length counted.dictionary.entries ≤ n
