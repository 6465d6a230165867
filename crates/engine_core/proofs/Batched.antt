-- Batches of dictionaries that follow one another, as one.
use Rattle.std.proofs.Common.{◌≡◌, ℕ, ◌+◌, ◌-◌, ◌≤◌, List, length, take, drop, sym, subst, arith, take-add}
use Rattle.std.proofs.lemmas.List.{length-drop, length-take-le}
use Rattle.shape_dict.specs.Contents.{Contents}
use Rattle.shape_dict.specs.Join.{IsJoin, IsOverflow}
use Rattle.engine_core.specs.declared.halves.Batch.{Batch}
use Rattle.engine_core.specs.Joins.{IsJoinedText}
use Rattle.engine_core.specs.Inner.Joins.{IsNextText}
use Rattle.engine_core.specs.Inner.Batches.{IsBatch, AreBatches}
use Rattle.engine_core.proofs.Joined.{more_joined, rest_is}
use Rattle.engine_core.proofs.Regrouped.{both_joined, no_more_than_bytes}

-- a batch has no more dictionaries than bytes
pub batch_number : (bytes : List ℕ) (batch : Batch) → IsBatch bytes batch → batch.number ≤ batch.length
batch_number bytes batch h =
    omega (arith, no_more_than_bytes (take batch.length bytes) batch.number batch.sum h.joined, length-take-le batch.length bytes h.within)

-- one dictionary more
pub more_batch : (bytes : List ℕ) (batch : Batch) (count : ℕ) (next sum : Contents) → IsBatch bytes batch → IsNextText (drop batch.length bytes) count next → (IsOverflow batch.sum next → ⊥) → IsJoin batch.sum next sum →
    IsBatch bytes (record { sum = sum; number = batch.number + 1; length = batch.length + count })
more_batch bytes batch count next sum h text fits join = record {
  within = let a = h.within in let b = text.within in omega (arith, length-drop batch.length bytes);
  joined = more_joined bytes batch.length count batch.number batch.sum next sum h.joined text fits join;
}

-- both as one
pub both_within : (bytes : List ℕ) (first next : Batch) → AreBatches bytes first next → first.length + next.length ≤ length bytes
both_within bytes first next h = let a = h.of_first.within in let b = h.of_next.within in omega (arith, length-drop first.length bytes)

pub both_number : (bytes : List ℕ) (first next : Batch) → AreBatches bytes first next → first.number + next.number ≤ length bytes
both_number bytes first next h =
    omega (arith, batch_number bytes first h.of_first, batch_number (drop first.length bytes) next h.of_next, both_within bytes first next h)

pub both_batch : (bytes : List ℕ) (first next : Batch) (sum : Contents) → AreBatches bytes first next → first.sum.counts_diamonds ≡ next.sum.counts_diamonds → (IsOverflow first.sum next.sum → ⊥) → IsJoin first.sum next.sum sum →
    IsBatch bytes (record { sum = sum; number = first.number + next.number; length = first.length + next.length })
both_batch bytes first next sum h kinds fits join = record {
  within = both_within bytes first next h;
  joined = subst (λ (xs : List ℕ). IsJoinedText xs (first.number + next.number) sum) (sym (take-add first.length next.length bytes))
      (both_joined (take first.length bytes) (take next.length (drop first.length bytes)) first.number next.number first.sum next.sum sum h.of_first.joined h.of_next.joined kinds fits join);
}

-- what was read from the rest of a slice
pub follows : (bytes : List ℕ) (first next : Batch) → IsBatch bytes first → IsBatch (take (length bytes - first.length) (drop first.length bytes)) next → AreBatches bytes first next
follows bytes first next h k = record {
  of_first = h;
  of_next = subst (λ (xs : List ℕ). IsBatch xs next) (rest_is bytes first.length) k;
}
