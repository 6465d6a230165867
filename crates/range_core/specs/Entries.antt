-- What holds of an entry that was counted.
use Rattle.std.specs.Prelude.{◌≡◌, ◌+◌, ◌<◌, ◌^◌}
use Rattle.shape_core.specs.Symmetry.{least_image}
use Rattle.shape_dict.specs.declared.entries.Entry.{Entry}

-- its word is the least of its images
abbrev pub IsShape : Entry → Type 0
IsShape entry = (entry.shape < 2 ^ 51) × (least_image entry.shape ≡ entry.shape)

-- an entry's word is the least of its images, and it counts something
abbrev pub IsCountedEntry : Entry → Type 0
IsCountedEntry entry = IsShape entry × (0 < entry.there + entry.played)
