-- Definitions that private contracts alone use, beside those of `Reading`.
use Rattle.std.specs.Prelude.{◌≤◌, length, Option, Some, None, IfSome}
use Rattle.sgf_core.specs.Limit.{most_bytes}
use Rattle.sgf_core.specs.declared.faults.SgfFault.{SgfFault}
use Rattle.sgf_core.specs.declared.faults.SgfFault.TheVariants as fault
use Rattle.sgf_core.specs.Reading.{Reading, IsFaultAt}

-- the place is within the input, which is not too large, and a fault that was met is that of the next tree
pub record IsReading (reading : Reading) : Type 0 where
  pub small : length reading.bytes ≤ most_bytes
  pub in_input : reading.from ≤ length reading.bytes
  pub met : IfSome reading.fault (IsFaultAt reading.bytes reading.from)

-- the fault that a reader keeps: not a lack of memory
abbrev pub kept_fault : SgfFault → Option SgfFault
kept_fault fault.Memory = None
kept_fault found = Some found
