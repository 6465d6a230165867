-- The numbers that calls return (this project's own): 0 where what was asked for is written.
use Rattle.std.specs.Prelude.{ℕ}
use Rattle.shape_dict.specs.declared.faults.DictFault.{DictFault}
use Rattle.shape_dict.specs.declared.faults.DictFault.TheVariants as fault
use Rattle.shape_keys.specs.declared.statuses.Status.{Status}
use Rattle.shape_keys.specs.declared.statuses.Status.TheVariants as status

-- what is wrong with a text: ten and the number in its own name, X1 to X9
abbrev pub number_of_fault : DictFault → ℕ
number_of_fault fault.BadHeader = 11
number_of_fault (fault.BadLine line) = 12
number_of_fault (fault.NotRising line) = 13
number_of_fault (fault.NotCanonical line) = 14
number_of_fault fault.WrongTotals = 15
number_of_fault fault.Memory = 16
number_of_fault fault.Overflow = 17
number_of_fault fault.TooLarge = 18
number_of_fault fault.MixedKinds = 19

abbrev pub number_of : Status → ℕ
number_of status.Done = 0
number_of status.Absent = 1
number_of status.BadCode = 2
number_of status.BadWord = 3
number_of status.BadMover = 4
number_of status.BadLength = 5
number_of status.BadGlyph = 6
number_of status.NoRoom = 7
number_of status.BadPoint = 8
number_of (status.BadText found) = number_of_fault found

-- the line that a fault names, from 1 at the header, or 0 where it names none
abbrev pub line_of : DictFault → ℕ
line_of (fault.BadLine line) = line
line_of (fault.NotRising line) = line
line_of (fault.NotCanonical line) = line
line_of found = 0
