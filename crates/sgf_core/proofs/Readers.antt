-- What a fault leaves of a reader.
use Rattle.std.proofs.Common.{◌≡◌, ℕ, List, Option, Some, subst}
use Rattle.std.specs.Prelude.{IfSome}
use Rattle.sgf_core.specs.Reading.{Reading, IsFaultAt, IsFaultOrMemory}
use Rattle.sgf_core.specs.Inner.Reading.{IsReading, kept_fault}
use Rattle.sgf_core.specs.declared.faults.SgfFault.{SgfFault}
use Rattle.sgf_core.specs.declared.faults.SgfFault.TheVariants as fault

abbrev with_fault : Reading → Option SgfFault → Reading
with_fault reading found = record { bytes = reading.bytes; from = reading.from; fault = found }

-- the fault of the next tree may be answered
pub may_answer : (bytes : List ℕ) (from : ℕ) (f : SgfFault) → IsFaultAt bytes from f → IsFaultOrMemory bytes from f
may_answer bytes from (fault.Truncated at) h = h
may_answer bytes from (fault.BadByte at) h = h
may_answer bytes from (fault.NoValue at) h = h
may_answer bytes from fault.TooLarge h = h
may_answer bytes from fault.Memory h = absurd h

-- the fault that was met
pub met_again : (reading : Reading) (f : SgfFault) → IsReading reading → reading.fault ≡ Some f → IsFaultOrMemory reading.bytes reading.from f
met_again reading f h is = may_answer reading.bytes reading.from f (subst (λ o. IfSome o (IsFaultAt reading.bytes reading.from)) is h.met)

-- the reader that keeps a fault
pub reading_on : (reading : Reading) (f : SgfFault) → IsReading reading → IsFaultOrMemory reading.bytes reading.from f → IsReading (with_fault reading (kept_fault f))
reading_on reading (fault.Truncated at) h k = record { small = h.small; in_input = h.in_input; met = k }
reading_on reading (fault.BadByte at) h k = record { small = h.small; in_input = h.in_input; met = k }
reading_on reading (fault.NoValue at) h k = record { small = h.small; in_input = h.in_input; met = k }
reading_on reading fault.TooLarge h k = record { small = h.small; in_input = h.in_input; met = k }
reading_on reading fault.Memory h k = record { small = h.small; in_input = h.in_input; met = tt }
