-- What is answered where one entry was looked for.
use Rattle.std.specs.Prelude.{◌≡◌, ℕ, ◌⊎◌, List, Contains, Option, Some, None}
use Rattle.shape_keys.specs.declared.entries.ShapesEntry.{ShapesEntry}
use Rattle.shape_keys.specs.declared.statuses.Status.TheVariants as status
use Rattle.shape_keys.specs.Status.{number_of}

-- the entry that was found is written; where there is none, what stood there stays
abbrev pub IsFoundAs : Option ShapesEntry → ℕ → ShapesEntry → ShapesEntry → Type 0
IsFoundAs (Some entry) number old new = (number ≡ number_of status.Done) × (new ≡ entry)
IsFoundAs None number old new = (number ≡ number_of status.Absent) × (new ≡ old)

-- whatever the entries: one of them that has the shape is written, or what stood there stays
abbrev pub IsSomeAnswer : ℕ → List ShapesEntry → ℕ → ShapesEntry → ShapesEntry → Type 0
IsSomeAnswer shape entries number old new =
    (number ≡ number_of status.Done) × (new.shape ≡ shape) × Contains entries new
    ⊎ (number ≡ number_of status.Absent) × (new ≡ old)
