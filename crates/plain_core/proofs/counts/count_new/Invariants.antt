use Rattle.std.proofs.Common.{◌<◌, ◌≤◌, length}
use Rattle.plain_core.proofs.counts.count_new.Given as goal

abbrev pub invariant-loop-i : goal.invariant-loop-i
invariant-loop-i l = record {
  row : 0 < length l.fn.rows;
  within : l.looked ≤ length l.fn.meetings;
  block : l.looked ≤ 128;
  few : l.count ≤ l.i;
}
