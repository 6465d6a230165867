-- What `count` prints: a text of the dictionary of the collection that the input is.
use Rattle.std.specs.Prelude.{◌≡◌, ◌⊎◌, ◌≤◌, ℕ, List, length}
use Rattle.shape_core.specs.declared.words.Kinds.{Kinds}
use Rattle.shape_dict.specs.declared.entries.Text.{Text}
use Rattle.shape_dict.specs.Text.{text_of}
use Rattle.sgf_core.specs.Limit.{most_bytes}
use Rattle.sgf_core.specs.declared.faults.SgfFault.TheVariants as sgf
use Rattle.shape_dict.specs.declared.faults.DictFault.TheVariants as dict_fault
use Rattle.harvest_faults.specs.declared.faults.HarvestFault.{HarvestFault}
use Rattle.harvest_faults.specs.declared.faults.HarvestFault.TheVariants as harvest_fault
use Rattle.tally_core.specs.declared.collections.Counted.{Counted}
use Rattle.game_core.specs.declared.reports.Report.{Report}
use Rattle.harvest_core.specs.Harvest.{IsCountedWithin, IsHarvestRefused}
use Rattle.engine_core.specs.declared.faults.RunFault.{RunFault}
use Rattle.engine_core.specs.declared.faults.RunFault.TheVariants as fault

-- the input was counted, with this report, and has at most `slots` patterns; and what was printed is this text of its dictionary
pub record IsCountText (slots : ℕ) (kinds : Kinds) (kind : Text) (report : Report) (input text : List ℕ) : Type 0 where
  pub counted : Counted
  pub of_input : IsCountedWithin slots kinds input counted
  pub reported : report ≡ counted.report
  pub printed : text ≡ text_of kind counted.dictionary

abbrev pub HasCountText : ℕ → Kinds → Text → List ℕ → List ℕ → Type 0
HasCountText slots kinds kind input text = (report : Report) × IsCountText slots kinds kind report input text

-- the input has at most 2 ^ 28 bytes, or the fault is that it is larger, or memory was wanting
abbrev pub ComesFirst : List ℕ → HarvestFault → Type 0
ComesFirst input found =
    (length input ≤ most_bytes) ⊎ (found ≡ harvest_fault.Sgf sgf.TooLarge) ⊎ (found ≡ harvest_fault.Memory)

-- the input was counted, and has at most `slots` patterns
abbrev pub HasCounted : ℕ → Kinds → List ℕ → Type 0
HasCounted slots kinds input = (counted : Counted) × IsCountedWithin slots kinds input counted

-- the collection was not counted with at most `slots` patterns; or it was, and memory was wanting for the text
abbrev pub IsCountRunFault : ℕ → Kinds → List ℕ → RunFault → Type 0
IsCountRunFault slots kinds input (fault.Harvest found) = IsHarvestRefused slots input kinds found × ComesFirst input found
IsCountRunFault slots kinds input (fault.Dict n dict_fault.Memory) = (n ≡ 1) × HasCounted slots kinds input
IsCountRunFault slots kinds input (fault.Dict n found) = ⊥
IsCountRunFault slots kinds input fault.Memory = Unit {0}
IsCountRunFault slots kinds input (fault.Sgf found) = ⊥
IsCountRunFault slots kinds input (fault.Record found) = ⊥
IsCountRunFault slots kinds input (fault.Board found) = ⊥
IsCountRunFault slots kinds input (fault.Glyph found) = ⊥
IsCountRunFault slots kinds input fault.Usage = ⊥
IsCountRunFault slots kinds input fault.Read = ⊥
IsCountRunFault slots kinds input (fault.Write written) = ⊥
