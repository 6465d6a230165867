-- The exit status of a fault: 1 no dictionary is wanted, 5 no memory, 6 read or write failed.
use Rattle.std.specs.Prelude.{ℕ}
use Rattle.merge_core.specs.declared.faults.MergeFault.TheVariants as merge
use Rattle.tally_parts.specs.declared.faults.PartsFault.{PartsFault}
use Rattle.tally_parts.specs.declared.faults.PartsFault.TheVariants as fault

abbrev pub status_of : PartsFault → ℕ
status_of fault.Memory = 5
status_of fault.Unwanted = 1
status_of (fault.Count found) = 5
status_of fault.Spill = 6
status_of (fault.Merge (merge.Memory written)) = 5
status_of (fault.Merge merge.Empty) = 6
status_of (fault.Merge (merge.Dict n found)) = 6
status_of (fault.Merge (merge.Read n written)) = 6
status_of (fault.Merge (merge.Changed written)) = 6
status_of (fault.Merge (merge.Write written)) = 6
status_of (fault.Write written) = 6
