-- The exit status of a fault: 2 usage, 3 input refused, 4 table full, 5 no memory, 6 read or write failed.
use Rattle.std.specs.Prelude.{ℕ}
use Rattle.sgf_core.specs.declared.faults.SgfFault.TheVariants as sgf
use Rattle.go_record.specs.declared.faults.RecordFault.TheVariants as record_fault
use Rattle.harvest_faults.specs.declared.faults.HarvestFault.TheVariants as harvest_fault
use Rattle.shape_dict.specs.declared.faults.DictFault.TheVariants as dict_fault
use Rattle.engine_core.specs.declared.faults.RunFault.{RunFault}
use Rattle.engine_core.specs.declared.faults.RunFault.TheVariants as fault

abbrev pub status_of : RunFault → ℕ
status_of (fault.Sgf sgf.Memory) = 5
status_of (fault.Sgf found) = 3
status_of (fault.Record record_fault.Memory) = 5
status_of (fault.Record found) = 3
status_of (fault.Board found) = 5
status_of (fault.Glyph found) = 2
status_of (fault.Harvest harvest_fault.BadSettings) = 2
status_of (fault.Harvest (harvest_fault.Full game word)) = 4
status_of (fault.Harvest harvest_fault.Memory) = 5
status_of (fault.Harvest (harvest_fault.Sgf sgf.Memory)) = 5
status_of (fault.Harvest found) = 3
status_of (fault.Dict n dict_fault.Memory) = 5
status_of (fault.Dict n found) = 3
status_of fault.Usage = 2
status_of fault.Read = 6
status_of (fault.Write written) = 6
status_of fault.Memory = 5
