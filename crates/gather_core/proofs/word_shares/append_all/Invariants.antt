use Rattle.std.proofs.Common.{◌≡◌, ℕ, take}
use Rattle.range_core.specs.Totals.{together, total_of, all_of}
use Rattle.gather_core.specs.Inner.Met.{met_entries}
use Rattle.gather_core.proofs.word_shares.append_all.Given as goal

-- the meetings so far were appended
abbrev pub invariant-loop-meeting : goal.invariant-loop-meeting
invariant-loop-meeting l = (shape : ℕ) → total_of shape (all_of l.lists)
    ≡ together (total_of shape (all_of l.fn.lists)) (total_of shape (met_entries l.fn.game (take l.meeting-index l.meetings)))
