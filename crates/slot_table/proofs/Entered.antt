-- What holds of each key that was entered, with its answer, holds of each call that was made; for proofs in the crates above.
use Rattle.std.proofs.Common.{ℕ, suc, ◌<◌, List, [], ◌∷◌, length, slice_index, arith}
use Rattle.std.specs.List.{AllByRecursion}
use Rattle.std.proofs.lemmas.List.Elements.{All-from_recursion, recursion_from_All}
use Rattle.std.proofs.lemmas.List.Sorted.{All-permutation, IsPermutation-sym}
use Rattle.probe_core.specs.declared.calls.Call.TheVariants as call
use Rattle.probe_core.specs.declared.calls.Answer.{Answer}
use Rattle.probe_core.specs.declared.calls.Answer.TheVariants as answer
use Rattle.slot_table.specs.declared.entries.Happened.{Happened}
use Rattle.slot_table.specs.declared.entries.Happened.TheVariants as entry
use Rattle.slot_table.specs.Batches.{entered, answer_at, AreMade}
use Rattle.slot_table.specs.Passes.{Known}

pub all_entered : (P : Happened → Type 0) (keys : List ℕ) (answers : List Answer)
    → ((i : ℕ) → i < length keys → P (entry.Asked (call.Enter (slice_index keys i)) (answer_at answers i))) → AllByRecursion P (entered keys answers)
all_entered P [] answers each = tt
all_entered P (key ∷ keys) [] each = tt
all_entered P (key ∷ keys) (answer.Absent ∷ answers) each = all_entered P keys answers (λ i h. each (suc i) (omega (arith, h)))
all_entered P (key ∷ keys) (answer.Full ∷ answers) each = (each 0 (omega arith), all_entered P keys answers (λ i h. each (suc i) (omega (arith, h))))
all_entered P (key ∷ keys) (answer.Number p ∷ answers) each = (each 0 (omega arith), all_entered P keys answers (λ i h. each (suc i) (omega (arith, h))))

pub all_made : {O : Type 0} (n : ℕ) (P : Happened → Type 0) (keys : List ℕ) (answers : List Answer) (old new : Known O) → (made : AreMade n (entered keys answers) old new)
    → ((i : ℕ) → i < length keys → P (entry.Asked (call.Enter (slice_index keys i)) (answer_at answers i))) → AllByRecursion P made.made
all_made n P keys answers old new made each =
    recursion_from_All P made.made
    (All-permutation P (entered keys answers) made.made (IsPermutation-sym made.made (entered keys answers) made.each)
    (All-from_recursion P (entered keys answers) (all_entered P keys answers each)))
