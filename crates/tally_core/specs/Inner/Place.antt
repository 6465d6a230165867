-- Where a shape is looked up among meetings.
use Rattle.std.specs.Prelude.{ℕ, ◌-◌, ◌^◌, ◌<◌, List}
use Rattle.tally_core.specs.Inner.Meeting.{IsMet}
use Rattle.tally_core.specs.declared.meetings.Place.{Place}
use Rattle.tally_core.specs.declared.meetings.Place.TheVariants as place

-- where it says that the shape was met, it was met there
abbrev pub IsPlaceOf : List ℕ → ℕ → Place → Type 0
IsPlaceOf shapes shape (place.Met at) = IsMet shapes shape at × (at < 2 ^ 63 - 1)
IsPlaceOf shapes shape (place.Free _) = Unit {0}
