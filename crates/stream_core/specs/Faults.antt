-- Which fault comes first in bytes that are to be one text, however many they are.
use Rattle.std.specs.Prelude.{◌≡◌, ℕ, ◌⊎◌, List, Option, IfSome}
use Rattle.shape_dict.specs.Reading.{HasNoHeader, IsBadLine, HasMore, IsFirstFault}
use Rattle.shape_dict.specs.declared.faults.DictFault.{DictFault}
use Rattle.shape_dict.specs.declared.faults.DictFault.TheVariants as fault
use Rattle.stream_core.specs.declared.faults.StreamFault.{StreamFault}
use Rattle.stream_core.specs.declared.faults.StreamFault.TheVariants as stream

-- the first fault of bytes that are to be one text, without a limit of their number; out of memory is none of theirs
abbrev pub IsWholeFault : List ℕ → DictFault → Type 0
IsWholeFault bytes (fault.BadLine line) = IsBadLine bytes line ⊎ HasMore bytes line
IsWholeFault bytes fault.Memory = ⊥
IsWholeFault bytes found = IsFirstFault bytes found

-- why a text was not read to its end, once it was open
abbrev pub IsStreamFault : List ℕ → StreamFault → Type 0
IsStreamFault bytes (stream.Dict found) = IsWholeFault bytes found
IsStreamFault bytes stream.Read = Unit {0}
IsStreamFault bytes stream.Memory = ⊥

-- why a text was not opened: its bytes, where they are known, do not begin with a header; or a read failed, or memory was
-- refused
abbrev pub IsOpenFault : Option (List ℕ) → StreamFault → Type 0
IsOpenFault bytes (stream.Dict found) = (found ≡ fault.BadHeader) × IfSome bytes HasNoHeader
IsOpenFault bytes stream.Read = Unit {0}
IsOpenFault bytes stream.Memory = Unit {0}
