-- What is done to a list of meetings.
use Rattle.std.specs.Prelude.{◌≡◌, ℕ, ◌<◌, List, ◌++◌, length, slice_index}
use Rattle.tally_core.specs.declared.meetings.Meeting.{Meeting}
use Rattle.tally_core.specs.Walk.{there_among, played_among, once_each}

-- the second list begins with the first
pub record Extends (before after : List ℕ) : Type 0 where
  pub more : List ℕ
  pub is : after ≡ before ++ more

-- a list of shapes has met these patterns, too
pub record Meets (before patterns after : List ℕ) : Type 0 where
  pub extends : Extends before after
  pub order : once_each after ≡ once_each (before ++ patterns)

-- no pattern was there or was played more often than before
pub record CountsStay (before after : List Meeting) : Type 0 where
  pub there : (shape : ℕ) → there_among after shape ≡ there_among before shape
  pub played : (shape : ℕ) → played_among after shape ≡ played_among before shape

-- a pattern has a meeting at this index
pub record IsMet (shapes : List ℕ) (shape at : ℕ) : Type 0 where
  pub inside : at < length shapes
  pub is : slice_index shapes at ≡ shape
