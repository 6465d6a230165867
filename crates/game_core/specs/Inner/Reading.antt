-- Definitions that private contracts alone use, beside those of `Reading`.
use Rattle.std.specs.Prelude.{◌≡◌, ◌⊎◌, ℕ, ◌+◌, ◌<◌, ◌≤◌, Bool, true, false, List, length, Option, Some, None, Result, Ok, Err}
use Rattle.sgf_core.specs.Tree.{GameTree}
use Rattle.sgf_core.specs.Next.{IsNextTree, HasNoTree}
use Rattle.go_record.specs.Actions.{Actions}
use Rattle.go_record.specs.declared.records.Kind.{Kind}
use Rattle.go_record.specs.declared.records.Kind.TheVariants as kind
use Rattle.go_record.specs.declared.faults.RecordFault.{RecordFault}
use Rattle.game_core.specs.Collection.{record_of_tree}
use Rattle.game_core.specs.Faults.{IsNextFault}
use Rattle.game_core.specs.declared.faults.GamesFault.{GamesFault}
use Rattle.game_core.specs.declared.reports.Report.{Report}
use Rattle.game_core.specs.declared.games.Stage.{Stage}
use Rattle.game_core.specs.declared.games.Stage.TheVariants as stage
use Rattle.game_core.specs.declared.games.Recorded.{Recorded}
use Rattle.game_core.specs.declared.games.TreeOutcome.{TreeOutcome}
use Rattle.game_core.specs.declared.games.TreeOutcome.TheVariants as outcome
use Rattle.game_core.specs.Reading.{Reading, IsNextGame, HasNoGame}

-- where the next tree is looked for, with the place of the reader of trees; or why none is
abbrev pub IsStage : List ℕ → ℕ → ℕ → Stage → Type 0
IsStage bytes from place stage.Trees = place ≡ from
IsStage bytes from place stage.End = HasNoTree bytes from
IsStage bytes from place (stage.Fault found) = IsNextFault bytes from found

-- the fault that was met
abbrev pub fault_of : Stage → Option GamesFault
fault_of stage.Trees = None
fault_of stage.End = None
fault_of (stage.Fault found) = Some found

-- whether no tree was left
abbrev pub has_ended : Stage → Bool
has_ended stage.Trees = false
has_ended stage.End = true
has_ended (stage.Fault found) = false

-- one tree was read, or none was left
abbrev pub IsTreeOutcome : Reading → Reading → TreeOutcome → Type 0
IsTreeOutcome before after (outcome.Job job) = IsNextGame before after job
IsTreeOutcome before after outcome.Passed = (after.report.games ≡ before.report.games)
    × (before.from < after.from) × (after.from ≤ length after.bytes)
IsTreeOutcome before after outcome.End = HasNoGame before after × (after.ended ≡ true)

-- the tree that is next, with its record
pub record IsNextRecord (bytes : List ℕ) (from : ℕ) (read : Recorded) : Type 0 where
  pub tree : GameTree
  pub next : IsNextTree bytes from read.at read.end tree
  pub recorded : read.recorded ≡ record_of_tree tree
  pub forward : from < read.end

-- a tree with this record was counted, and the record came back where it is a game's
abbrev pub Counts : Report → Result Kind RecordFault → Report → Option Actions → Type 0
Counts before recorded after (Some game) =
    (recorded ≡ Ok (kind.Go game)) × (after ≡ record before { games = before.games + 1 })
Counts before recorded after None =
    ((recorded ≡ Ok kind.Other) × (after ≡ record before { others = before.others + 1 }))
    ⊎ ((found : RecordFault) × (recorded ≡ Err found) × (after ≡ record before { refused = before.refused + 1 }))
