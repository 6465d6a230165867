-- What one step meets, and what was met up to a place.
use Rattle.std.specs.Prelude.{◌≡◌, ℕ, ◌+◌, ◌<◌, ◌≤◌, List, ◌++◌, length, Option, MatchOption, Result, Ok, Err}
use Rattle.sgf_core.specs.Tree.{GameTree}
use Rattle.sgf_core.specs.Next.{IsNextTree, HasNoTree}
use Rattle.sgf_core.specs.Reading.{Reading, IsFaultAt}
use Rattle.go_record.specs.declared.records.Kind.{Kind}
use Rattle.go_record.specs.declared.records.Kind.TheVariants as kind
use Rattle.go_record.specs.declared.faults.RecordFault.{RecordFault}
use Rattle.game_core.specs.Collection.{record_of_tree}
use Rattle.game_core.specs.Reports.{IsReport}
use Rattle.game_core.specs.declared.reports.Report.{Report}
use Rattle.listing_core.specs.Inner.Reading.{all_in}
use Rattle.twins_core.specs.declared.reading.Sort.{Sort}
use Rattle.twins_core.specs.declared.reading.Sort.TheVariants as sort
use Rattle.twins_core.specs.declared.reading.Step.{Step}
use Rattle.twins_core.specs.declared.reading.Step.TheVariants as step
use Rattle.twins_core.specs.declared.reading.Ending.{Ending}
use Rattle.twins_core.specs.Twins.{Met, AreTwins, Kept, Knows}
use Rattle.twins_core.specs.Runs.{met_of, AreMet}

-- what sort of tree this record is of
abbrev pub sort_of : Result Kind RecordFault → Sort
sort_of (Ok (kind.Go game)) = sort.Game
sort_of (Ok kind.Other) = sort.Other
sort_of (Err found) = sort.Refused

-- the report on a tree more, of this sort
abbrev pub counted : Report → Sort → Report
counted report sort.Game = record report { games = report.games + 1 }
counted report sort.Other = record report { others = report.others + 1 }
counted report sort.Refused = record report { refused = report.refused + 1 }

-- after games that were met before, these were met: what is written of them was appended, and they are known
pub record MeetsAll (kept : List Kept) (before mets : List Met) (text new : List ℕ) : Type 0 where
  pub added : List ℕ
  pub twins : AreTwins before mets added
  pub printed : new ≡ text ++ added
  pub known : Knows kept (before ++ mets)

-- the next tree was read
pub record ReadsNext (reading after : Reading) (end : ℕ) : Type 0 where
  pub from : ℕ
  pub tree : GameTree
  pub is_next : IsNextTree reading.bytes reading.from from end tree
  pub forward : reading.from < end
  pub in_input : end ≤ length reading.bytes
  pub moved : after ≡ record reading { from = end }

-- what a step read
abbrev pub IsRead : Reading → Reading → Step → Type 0
IsRead reading after (step.Tree found end) = ReadsNext reading after end
IsRead reading after step.End = HasNoTree reading.bytes reading.from
IsRead reading after (step.Fault found) = IsFaultAt reading.bytes reading.from found

-- the next tree was met
pub record MeetsNext (name : Option (List ℕ)) (kept : List Kept) (reading after : Reading) (number : ℕ) (before : List Met)
    (text new : List ℕ) (found : Sort) (end : ℕ) : Type 0 where
  pub from : ℕ
  pub tree : GameTree
  pub is_next : IsNextTree reading.bytes reading.from from end tree
  pub is_sort : found ≡ sort_of (record_of_tree tree)
  pub meets : MeetsAll kept before (met_of name (record_of_tree tree) number from end) text new
  pub forward : reading.from < end
  pub in_input : end ≤ length reading.bytes
  pub moved : after ≡ record reading { from = end }

-- what a step met
abbrev pub IsStep : Option (List ℕ) → List Kept → Reading → Reading → ℕ → List Met → List ℕ → List ℕ → Step → Type 0
IsStep name kept reading after number before text new (step.Tree found end) = MeetsNext name kept reading after number before text new found end
IsStep name kept reading after number before text new step.End = HasNoTree reading.bytes reading.from × (new ≡ text) × Knows kept before
IsStep name kept reading after number before text new (step.Fault found) = IsFaultAt reading.bytes reading.from found × (new ≡ text) × Knows kept before

-- what was met up to a place
pub record MeetsUpTo (number : ℕ) (name : Option (List ℕ)) (before : List Met) (kept : List Kept) (bytes : List ℕ)
    (place : ℕ) (report : Report) (text : List ℕ) : Type 0 where
  pub trees : List GameTree
  pub mets : List Met
  pub are : AreMet name bytes number 0 trees place mets
  pub reported : IsReport trees report
  pub few : all_in report ≤ place
  pub twins : AreTwins before mets text
  pub known : Knows kept (before ++ mets)

-- all trees were met, up to the end or up to a fault of syntax
pub record IsEnding (number : ℕ) (name : Option (List ℕ)) (before : List Met) (kept : List Kept) (bytes text : List ℕ)
    (ending : Ending) : Type 0 where
  pub meets : MeetsUpTo number name before kept bytes ending.end ending.report text
  pub stops : MatchOption ending.fault (HasNoTree bytes ending.end) (IsFaultAt bytes ending.end)
