use Rattle.std.proofs.Common.{◌≡◌, map, take}
use Rattle.range_core.specs.Inner.Records.{entry_of}
use Rattle.range_core.proofs.records.entries_of.Given as goal

-- the records so far were unpacked
abbrev pub invariant-loop-one : goal.invariant-loop-one
invariant-loop-one l = l.entries.items ≡ map entry_of (take l.one-index l.records)
