use Rattle.std.proofs.Common.{◌≡◌, ◌<◌, ◌≤◌, ℕ, slice_index, bit_or}
use Rattle.shape_core.proofs.marks.move_marks.Given as goal

-- the rows above were joined and cleared, and the others are as they were
abbrev pub invariant-loop-row : goal.invariant-loop-row
invariant-loop-row l = record {
  first_joined : (k : ℕ) → k < l.row → slice_index l.first k ≡ bit_or (slice_index l.fn.first k) (slice_index l.fn.changed k);
  first_left : (k : ℕ) → l.row ≤ k → slice_index l.first k ≡ slice_index l.fn.first k;
  second_joined : (k : ℕ) → k < l.row → slice_index l.second k ≡ bit_or (slice_index l.fn.second k) (slice_index l.fn.changed k);
  second_left : (k : ℕ) → l.row ≤ k → slice_index l.second k ≡ slice_index l.fn.second k;
  cleared : (k : ℕ) → k < l.row → slice_index l.changed k ≡ 0;
  marks_left : (k : ℕ) → l.row ≤ k → slice_index l.changed k ≡ slice_index l.fn.changed k;
}
