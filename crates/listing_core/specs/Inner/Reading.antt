-- What one step of a listing reads.
use Rattle.std.specs.Prelude.{◌≡◌, ℕ, ◌+◌, ◌<◌, ◌≤◌, List, ◌++◌, length, MatchOption, Result}
use Rattle.sgf_core.specs.Tree.{GameTree, main_line_of}
use Rattle.sgf_core.specs.Next.{IsNextTree, HasNoTree}
use Rattle.sgf_core.specs.Reading.{Reading, IsFaultAt}
use Rattle.sgf_core.specs.Written.{WrittenTree}
use Rattle.go_record.specs.declared.records.Kind.{Kind}
use Rattle.go_record.specs.declared.faults.RecordFault.{RecordFault}
use Rattle.game_core.specs.Collection.{record_of_tree}
use Rattle.game_core.specs.Reports.{IsReport}
use Rattle.game_core.specs.declared.reports.Report.{Report}
use Rattle.listing_core.specs.declared.asked.Asked.{Asked}
use Rattle.listing_core.specs.declared.lines.Line.{Line}
use Rattle.listing_core.specs.declared.lines.What.{What}
use Rattle.listing_core.specs.declared.lines.What.TheVariants as what
use Rattle.listing_core.specs.declared.listings.Ending.{Ending}
use Rattle.listing_core.specs.declared.trees.Step.{Step}
use Rattle.listing_core.specs.declared.trees.Step.TheVariants as step
use Rattle.listing_core.specs.Choice.{piece, pieces}
use Rattle.listing_core.specs.Listing.{IsWhat, number_of, AreLines}

-- the line is that of a tree of this record, where `number` is that of the next game
pub record IsLineOf (recorded : Result Kind RecordFault) (number : ℕ) (line : Line) : Type 0 where
  pub what : IsWhat recorded line.what
  pub numbered : line.number ≡ number_of recorded number

-- what is written of a tree was appended
pub record IsTreeStep (asked : Asked) (bytes : List ℕ) (read : WrittenTree) (tree : GameTree) (number : ℕ) (text new : List ℕ) (line : Line) : Type 0 where
  pub is_line : IsLineOf (record_of_tree tree) number line
  pub from : line.from ≡ read.at
  pub to : line.to ≡ read.end
  pub printed : new ≡ text ++ piece asked bytes (main_line_of tree) line

-- the next tree was listed
pub record ListsNext (asked : Asked) (before after : Reading) (number : ℕ) (text new : List ℕ) (line : Line) : Type 0 where
  pub tree : GameTree
  pub is_next : IsNextTree before.bytes before.from line.from line.to tree
  pub is_line : IsLineOf (record_of_tree tree) number line
  pub forward : before.from < line.to
  pub in_input : line.to ≤ length before.bytes
  pub moved : after ≡ record before { from = line.to }
  pub printed : new ≡ text ++ piece asked before.bytes (main_line_of tree) line

-- what a step met
abbrev pub IsStep : Asked → Reading → Reading → ℕ → List ℕ → List ℕ → Step → Type 0
IsStep asked before after number text new (step.Tree line) = ListsNext asked before after number text new line
IsStep asked before after number text new step.End = HasNoTree before.bytes before.from × (new ≡ text)
IsStep asked before after number text new (step.Fault found) = IsFaultAt before.bytes before.from found × (new ≡ text)

-- the report on a tree more, which is this
abbrev pub counted : Report → What → Report
counted report (what.Game size moves occasions) = record report { games = report.games + 1 }
counted report what.Other = record report { others = report.others + 1 }
counted report (what.Refused found) = record report { refused = report.refused + 1 }

-- how many trees a report is on
abbrev pub all_in : Report → ℕ
all_in report = report.games + report.others + report.refused

-- what is written of the trees up to a place
pub record ListsUpTo (asked : Asked) (bytes : List ℕ) (place : ℕ) (report : Report) (text : List ℕ) : Type 0 where
  pub trees : List GameTree
  pub lines : List Line
  pub are : AreLines bytes asked.first 0 trees place lines
  pub reported : IsReport trees report
  pub few : all_in report ≤ place
  pub printed : text ≡ pieces asked bytes trees lines

-- all trees were listed, up to the end or up to a fault of syntax
pub record IsEnding (asked : Asked) (bytes text : List ℕ) (ending : Ending) : Type 0 where
  pub lists : ListsUpTo asked bytes ending.end ending.report text
  pub stops : MatchOption ending.fault (HasNoTree bytes ending.end) (IsFaultAt bytes ending.end)
