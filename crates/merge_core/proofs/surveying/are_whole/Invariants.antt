use Rattle.std.proofs.Common.{◌≡◌, ◌<◌, ℕ, Some}
use Rattle.std.specs.List.{slice_get}
use Rattle.merge_core.specs.declared.tallies.Tally.{Tally}
use Rattle.merge_core.specs.Inner.Surveys.{IsWhole}
use Rattle.merge_core.proofs.surveying.are_whole.Given as goal

abbrev pub invariant-loop-n : goal.invariant-loop-n
invariant-loop-n g l = (k : ℕ) → (tally : Tally) → k < l.n → slice_get l.each k ≡ Some tally → IsWhole (g.S.Sources.bytes l.sources) l.headers l.low l.high k tally
