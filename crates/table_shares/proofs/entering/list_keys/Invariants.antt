use Rattle.std.proofs.Common.{◌≡◌, take}
use Rattle.table_shares.proofs.Common.{shapes_of}
use Rattle.table_shares.proofs.entering.list_keys.Given as goal

-- the keys so far are those of the first meetings
abbrev pub invariant-loop-meeting : goal.invariant-loop-meeting
invariant-loop-meeting l = l.keys.items ≡ shapes_of (take l.meeting-index l.meetings)
