use Rattle.std.proofs.Common.{◌≡◌, ◌++◌, map, take, drop}
use Rattle.shape_keys.specs.Entries.{said}
use Rattle.shape_keys.proofs.reading.put_entries.Given as goal

abbrev pub invariant-loop-place : goal.invariant-loop-place
invariant-loop-place l = l.room ≡ map said (take l.place l.entries) ++ drop l.place l.fn.room
