use Rattle.std.proofs.Common.{◌≡◌, ◌<◌, ℕ, length}
use Rattle.range_core.specs.Rows.{way_of, IsOther}
use Rattle.range_core.proofs.places.find.Given as goal

abbrev pub invariant-loop : goal.invariant-loop
invariant-loop l = record {
  places : l.places ≡ length l.fn.rows;
  place : l.place ≡ way_of l.fn.factor (length l.fn.rows) l.fn.shape l.counter;
  within : l.place < length l.fn.rows;
  passed : (step : ℕ) → step < l.counter → IsOther l.fn.rows l.fn.shape (way_of l.fn.factor (length l.fn.rows) l.fn.shape step);
}
