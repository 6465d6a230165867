-- The hits of a collection against what `count` counts.
use Rattle.std.specs.Prelude.{ℕ, ◌==◌, List, count_by, Option, Some, None}
use Rattle.shape_dict.specs.declared.entries.Entry.{Entry}
use Rattle.hits_core.specs.declared.hits.Hit.{Hit}
use Rattle.hits_core.specs.declared.searches.Sought.{Sought}
use Rattle.hits_core.specs.declared.searches.Sought.TheVariants as sought

-- how many of the hits are of a word
abbrev pub times_hit : ℕ → List Hit → ℕ
times_hit word hits = count_by (λ hit. hit.word == word) hits

-- how often the entry of a pattern says that it was played, or was there: never where there is none
abbrev pub times_counted : Sought → Option Entry → ℕ
times_counted what None = 0
times_counted sought.Played (Some entry) = entry.played
times_counted sought.There (Some entry) = entry.there
