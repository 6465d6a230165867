-- Definitions that private contracts alone use, beside those of `Machine`.
use Rattle.std.specs.Prelude.{ℕ, ◌==◌, if◌then◌else◌, List, slice_index_or, slice_set}
use Rattle.probe_core.specs.declared.calls.Want.{Want}
use Rattle.probe_core.specs.declared.calls.Want.TheVariants as want

-- the words after a step: a swap that finds 0 writes its value
abbrev pub words_wanted : List ℕ → Want → List ℕ
words_wanted words (want.Load p) = words
words_wanted words (want.Swap p value) = if slice_index_or words p 0 == 0 then slice_set words p value else words
