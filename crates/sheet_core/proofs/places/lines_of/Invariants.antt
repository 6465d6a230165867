use Rattle.std.proofs.Common.{◌≡◌, ◌-◌, ◌≤◌, ◌++◌, [], map, take, drop, length}
use Rattle.sheet_core.specs.Places.{lines_after}
use Rattle.sheet_core.proofs.places.lines_of.Given as goal

abbrev pub invariant-loop-place : goal.invariant-loop-place
invariant-loop-place l = record {
  order : l.start ≤ l.place;
  inside : l.start ≤ length l.bytes;
  same : map (λ line. line.now) l.lines.items ++ lines_after (take (l.place - l.start) (drop l.start l.bytes)) (drop l.place l.bytes) ≡ lines_after [] l.bytes;
}
