-- Why an input is not counted, and with which pattern it first has more than some number of patterns.
use Rattle.std.specs.Prelude.{ℕ, List}
use Rattle.shape_core.specs.declared.words.Kinds.{Kinds}
use Rattle.tally_core.specs.Beyond.{IsFirstBeyond}
use Rattle.tally_core.specs.Counted.{IsCountFault}
use Rattle.game_core.specs.declared.reports.Report.{Report}
use Rattle.tally_core.specs.declared.faults.TallyFault.TheVariants as tally
use Rattle.game_core.specs.Games.{HasReadAll}
use Rattle.harvest_faults.specs.declared.faults.HarvestFault.{HarvestFault}
use Rattle.harvest_faults.specs.declared.faults.HarvestFault.TheVariants as fault

-- why an input was not counted, of whatever many patterns: memory was refused; or it is too large or has a fault of syntax
abbrev pub IsCountRefused : List ℕ → HarvestFault → Type 0
IsCountRefused bytes fault.Memory = Unit {0}
IsCountRefused bytes (fault.Sgf found) = IsCountFault bytes (tally.Sgf found)
IsCountRefused bytes found = ⊥

-- all trees of the input can be read
abbrev pub IsRead : List ℕ → Type 0
IsRead bytes = (report : Report) × HasReadAll bytes report

-- why an input of which at most n patterns are counted was not: memory was refused; or it is too large or has a fault of syntax;
-- or it can be read, and this is the pattern with which its patterns, in the order of the games and of their walks, are first
-- more than n, and this the first game that has it
abbrev pub IsHarvestRefused : ℕ → List ℕ → Kinds → HarvestFault → Type 0
IsHarvestRefused n bytes kinds fault.Memory = Unit {0}
IsHarvestRefused n bytes kinds (fault.Sgf found) = IsCountFault bytes (tally.Sgf found)
IsHarvestRefused n bytes kinds (fault.Full game word) = IsRead bytes × IsFirstBeyond kinds bytes n game word
IsHarvestRefused n bytes kinds found = ⊥
