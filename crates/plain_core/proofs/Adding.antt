-- Meetings of a game that are added to counts.
use Rattle.std.proofs.Common.{◌≡◌, ℕ, ◌+◌, ◌≤◌, ◌<◌, ◌==◌, cond, List, length, take, get_or, Option, ap, arith}
use Rattle.std.proofs.lemmas.List.Sums.{sum_by_more_le}
use Rattle.plain_core.specs.Inner.Count.{Count}
use Rattle.tally_core.specs.declared.meetings.Meeting.{Meeting}
use Rattle.plain_core.specs.Inner.Counter.{uses_at, used, CountsMeetings}
use Rattle.tally_core.specs.Inner.Times.{one_pattern}
use Rattle.tally_core.specs.Walk.{there_among, played_among}
use Rattle.plain_core.proofs.Used.{again-uses}

-- the counts with one meeting more are within those with all
pub next-within : (game : Option ℕ) (meetings : List Meeting) (i : ℕ) (meeting : Meeting) (before now : ℕ → Option Count) (shape : ℕ) → i < length meetings → meeting ≡ get_or meetings i meeting →
    CountsMeetings game (take i meetings) before now →
    uses_at (used game (one_pattern meeting.shape meeting.there) (one_pattern meeting.shape meeting.played) now shape) + 0
    ≤ uses_at (used game (there_among meetings) (played_among meetings) before shape) + 0
next-within game meetings i meeting before now shape inside read counted =
    let there = λ (m : Meeting). cond (m.shape == shape) m.there 0 in
    let played = λ (m : Meeting). cond (m.shape == shape) m.played 0 in
    omega (
      arith,
      again-uses game (one_pattern meeting.shape meeting.there shape) (one_pattern meeting.shape meeting.played shape) (now shape),
      again-uses game (there_among meetings shape) (played_among meetings shape) (before shape),
      ap uses_at (counted shape),
      again-uses game (there_among (take i meetings) shape) (played_among (take i meetings) shape) (before shape),
      sum_by_more_le there meetings i meeting inside,
      ap there read,
      sum_by_more_le played meetings i meeting inside,
      ap played read,
    )
