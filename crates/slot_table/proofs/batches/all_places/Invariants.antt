use Rattle.std.proofs.Common.{◌≡◌, ◌<◌, ℕ, length, slice_index}
use Rattle.slot_table.proofs.batches.all_places.Given as goal

-- each place so far is at itself
abbrev pub invariant-loop-i : goal.invariant-loop-i
invariant-loop-i l = record {
  room : length l.places ≡ 128;
  each : (k : ℕ) → k < l.i → slice_index l.places k ≡ k;
}
