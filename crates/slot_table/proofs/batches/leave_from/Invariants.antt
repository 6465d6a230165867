use Rattle.std.proofs.Common.{◌≡◌, ℕ, ◌<◌, ◌≤◌, length}
use Rattle.probe_core.specs.declared.calls.Answer.TheVariants as answer
use Rattle.slot_table.specs.Batches.{answer_at}
use Rattle.slot_table.proofs.batches.leave_from.Given as goal

-- the answers before `start` are as they were, and Absent stands after them so far
abbrev pub invariant-loop-i : goal.invariant-loop-i
invariant-loop-i l = record {
  long : length l.answers ≡ length l.fn.answers;
  before : (i : ℕ) → i < l.start → answer_at l.answers i ≡ answer_at l.fn.answers i;
  left : (i : ℕ) → l.start ≤ i → i < l.i → answer_at l.answers i ≡ answer.Absent;
}
