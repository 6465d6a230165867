use Rattle.std.proofs.Common.{◌≡◌, ◌-◌, ◌<◌, ◌≤◌, ◌^◌}
use Rattle.sheet_core.specs.Bounds.{bound_from}
use Rattle.sheet_core.proofs.bounds.bound_for.Given as goal

abbrev pub invariant-loop-done : goal.invariant-loop-done
invariant-loop-done l = record {
  step : l.step ≤ 2 ^ 19;
  bound : l.bound < 2 ^ 20;
  same : bound_from (20 - l._done) l.times l.plays l.step l.bound ≡ bound_from 20 l.times l.plays (2 ^ 19) 0;
}
