-- What a failed write leaves.
use Rattle.std.specs.Prelude.{◌≡◌, ℕ, ◌<◌, List, length, take, Option}
use Rattle.std.specs.Io.KnownBytes.{Appends}
use Rattle.engine_core.specs.declared.faults.RunFault.{RunFault}
use Rattle.engine_core.specs.declared.faults.RunFault.TheVariants as fault

-- the write failed, and exactly this number of bytes of the text is out
pub record WroteFront (before after : Option (List ℕ)) (text : List ℕ) (found : RunFault) : Type 0 where
  pub written : ℕ
  pub is_write : found ≡ fault.Write written
  pub short : written < length text
  pub out : Appends before after (take written text)
