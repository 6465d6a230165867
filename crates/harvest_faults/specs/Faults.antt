-- Faults of counting on one thread, as they are named where shares are counted.
use Rattle.tally_core.specs.declared.faults.TallyFault.{TallyFault}
use Rattle.tally_core.specs.declared.faults.TallyFault.TheVariants as tally
use Rattle.harvest_faults.specs.declared.faults.HarvestFault.{HarvestFault}
use Rattle.harvest_faults.specs.declared.faults.HarvestFault.TheVariants as fault

-- the same fault
abbrev pub same_fault : TallyFault → HarvestFault
same_fault tally.BadSettings = fault.BadSettings
same_fault tally.Memory = fault.Memory
same_fault (tally.Sgf found) = fault.Sgf found
same_fault tally.Overflow = fault.Overflow
