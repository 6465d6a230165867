use Rattle.std.proofs.Common.{◌≡◌, ◌<◌, ◌≤◌, ℕ, length, slice_index}
use Rattle.slot_table.specs.Inner.Batches.{AreChosen, ArePassed}
use Rattle.slot_table.proofs.batches.keep_passed.Given as goal

-- what is kept are passed places, all before those that are left, which are as they were
abbrev pub invariant-loop-i : goal.invariant-loop-i
invariant-loop-i l = record {
  long : length l.left ≡ length l.initial.left;
  few : l.kept ≤ l.i;
  chosen : AreChosen (length l.keys) l.left l.kept;
  passed : ArePassed l.slots l.keys l.looks l.left 0 l.kept;
  before : (a b : ℕ) → a < l.kept → l.i ≤ b → b < l.count → slice_index l.left a < slice_index l.left b;
  same : (a : ℕ) → l.i ≤ a → a < l.count → slice_index l.left a ≡ slice_index l.initial.left a;
}
