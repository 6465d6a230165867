-- The exit status of a fault: 2 usage, 3 input refused, 5 no memory, 6 read or write failed.
use Rattle.std.specs.Prelude.{ℕ}
use Rattle.merge_core.specs.declared.faults.MergeFault.{MergeFault}
use Rattle.merge_core.specs.declared.faults.MergeFault.TheVariants as fault

abbrev pub status_of : MergeFault → ℕ
status_of fault.Empty = 2
status_of (fault.Dict n found) = 3
status_of (fault.Read n written) = 6
status_of (fault.Changed written) = 6
status_of (fault.Write written) = 6
status_of (fault.Memory written) = 5
