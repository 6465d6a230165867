use Rattle.std.proofs.Common.{◌≡◌, nat_eq, filter, slice_get, drop}
use Rattle.std.specs.HashSet.{contains}
use Rattle.tally_core.specs.Walk.{once_each, shapes_of}
use Rattle.beyond_core.proofs.too_many.shape_at.Given as goal

-- what is left of the meetings gives the same, at the place that is left
abbrev pub invariant-loop-meeting : goal.invariant-loop-meeting
invariant-loop-meeting l =
    slice_get (filter (contains nat_eq l.words) (once_each (shapes_of (drop l.meeting-index l.meetings)))) l.left
    ≡ slice_get (filter (contains nat_eq l.fn.words) (once_each (shapes_of l.fn.meetings))) l.fn.place
