-- Dictionaries that were read from the front of bytes and joined.
use Rattle.std.specs.Prelude.{ℕ, ◌≤◌, List, length, take, drop}
use Rattle.engine_core.specs.declared.halves.Batch.{Batch}
use Rattle.engine_core.specs.Joins.{IsJoinedText}

-- the bytes begin with the texts of these dictionaries
pub record IsBatch (bytes : List ℕ) (batch : Batch) : Type 0 where
  pub within : batch.length ≤ length bytes
  pub joined : IsJoinedText (take batch.length bytes) batch.number batch.sum

-- the bytes begin with the texts of the first batch, and what is left with those of the next one
pub record AreBatches (bytes : List ℕ) (first next : Batch) : Type 0 where
  pub of_first : IsBatch bytes first
  pub of_next : IsBatch (drop first.length bytes) next
