-- The listing of a collection: the lines of its trees in order, and a last line where it has a fault of syntax.
use Rattle.std.specs.Prelude.{◌≡◌, ◌≢◌, ℕ, ◌+◌, ◌<◌, ◌≤◌, ◌^◌, ◌==◌, ◌&&◌, Bool, List, [], ◌∷◌, ◌++◌, length, Option, Some, None, Result, Ok, Err, if◌then◌else◌}
use Rattle.sgf_core.specs.Tree.{GameTree, main_line_of}
use Rattle.sgf_core.specs.Next.{IsNextTree, HasNoTree}
use Rattle.sgf_core.specs.Reading.{IsFaultAt}
use Rattle.sgf_core.specs.Limit.{most_bytes}
use Rattle.go_record.specs.Actions.{Actions}
use Rattle.go_record.specs.Adding.{KeepsAnAction}
use Rattle.go_record.specs.declared.records.Kind.{Kind}
use Rattle.go_record.specs.declared.records.Kind.TheVariants as kind
use Rattle.go_record.specs.declared.faults.RecordFault.{RecordFault}
use Rattle.go_record.specs.declared.faults.RecordFault.TheVariants as record_fault
use Rattle.sgf_core.specs.declared.faults.SgfFault.{SgfFault}
use Rattle.sgf_core.specs.declared.faults.SgfFault.TheVariants as sgf
use Rattle.engine_core.specs.declared.faults.RunFault.{RunFault}
use Rattle.engine_core.specs.declared.faults.RunFault.TheVariants as fault
use Rattle.game_core.specs.Collection.{AreTrees, record_of_tree, games_among}
use Rattle.game_core.specs.Reports.{IsReport}
use Rattle.game_core.specs.declared.reports.Report.{Report}
use Rattle.listing_core.specs.declared.asked.Asked.{Asked}
use Rattle.listing_core.specs.declared.lines.Line.{Line}
use Rattle.listing_core.specs.declared.lines.What.{What}
use Rattle.listing_core.specs.declared.lines.What.TheVariants as what
use Rattle.listing_core.specs.declared.listings.Listed.{Listed}
use Rattle.listing_core.specs.declared.listings.Listed.TheVariants as listed
use Rattle.listing_core.specs.declared.listings.Summary.{Summary}
use Rattle.listing_core.specs.Games.{moves_in, HasOccasionNumber}
use Rattle.listing_core.specs.Choice.{pieces, fault_piece}

-- this is what a tree of this record is
abbrev pub IsWhat : Result Kind RecordFault → What → Type 0
IsWhat (Ok (kind.Go game)) (what.Game size moves occasions) =
    (size ≡ game.size) × (moves ≡ moves_in game.actions) × HasOccasionNumber game occasions
IsWhat (Ok kind.Other) found = found ≡ what.Other
IsWhat (Err fault) found = found ≡ what.Refused fault
IsWhat (Ok (kind.Go game)) _ = ⊥

-- the number of a tree of this record, where this is the next game's
abbrev pub number_of : Result Kind RecordFault → ℕ → Option ℕ
number_of (Ok (kind.Go game)) next = Some next
number_of (Ok kind.Other) next = None
number_of (Err fault) next = None

-- these trees stand one after another from a place on, the last of them ends at `end`, and these are their lines, the games
-- numbered from `number` on
abbrev pub AreLines : List ℕ → ℕ → ℕ → List GameTree → ℕ → List Line → Type 0
AreLines bytes number place [] end lines = (place ≡ end) × (lines ≡ [])
AreLines bytes number place (tree ∷ trees) end [] = ⊥
AreLines bytes number place (tree ∷ trees) end (line ∷ lines) =
    IsNextTree bytes place line.from line.to tree
    × IsWhat (record_of_tree tree) line.what
    × (line.number ≡ number_of (record_of_tree tree) number)
    × AreLines bytes (number + length (games_among (record_of_tree tree ∷ []))) line.to trees end lines

-- why no further tree is listed: none begins any more, or the next one has a fault of syntax
abbrev pub Stops : Listed → List ℕ → List GameTree → ℕ → Type 0
Stops listed.Done input trees end = HasNoTree input end × (trees ≢ [])
Stops listed.NoTree input trees end = HasNoTree input end × (trees ≡ [])
Stops (listed.Fault found) input trees end = IsFaultAt input end found

-- a report on no tree
abbrev pub is_none : Report → Bool
is_none report = report.games == 0 && report.others == 0 && report.refused == 0

-- how a listing ended, by the fault of syntax that ended it, if one did, and the report on its trees
abbrev pub listed_of : Option SgfFault → Report → Listed
listed_of (Some found) report = listed.Fault found
listed_of None report = if is_none report then listed.NoTree else listed.Done

-- what follows that of the trees
abbrev pub last_piece : Asked → Listed → ℕ → ℕ → List ℕ
last_piece asked listed.Done end size = []
last_piece asked listed.NoTree end size = []
last_piece asked (listed.Fault found) end size = fault_piece asked end size found

-- the greatest number of an input's first game
abbrev pub most_first : ℕ
most_first = 2 ^ 63

-- the text is what is asked for of this input, which has at most 2 ^ 28 bytes, and these are its trees
pub record IsListing (asked : Asked) (found : Summary) (input text : List ℕ) : Type 0 where
  pub trees : List GameTree
  pub end : ℕ
  pub lines : List Line
  pub few : length input ≤ most_bytes
  pub of_trees : AreLines input asked.first 0 trees end lines
  pub stops : Stops found.listed input trees end
  pub reported : IsReport trees found.report
  pub printed : text ≡ pieces asked input trees lines ++ last_piece asked found.listed end (length input)

abbrev pub HasListing : Asked → List ℕ → List ℕ → Type 0
HasListing asked input text = (found : Summary) × IsListing asked found input text

-- after trees that can be read, a whole one is next, and this holds of it
pub record HasTree (Holds : GameTree → Type 0) (input : List ℕ) : Type 0 where
  pub before : List GameTree
  pub from : ℕ
  pub written : AreTrees input 0 before from
  pub at : ℕ
  pub end : ℕ
  pub tree : GameTree
  pub next : IsNextTree input from at end tree
  pub holds : Holds tree

-- reading the tree takes memory
abbrev pub IsTree : GameTree → Type 0
IsTree tree = Unit {0}

-- reading its record keeps an action, for which memory is asked
abbrev pub IsKept : GameTree → Type 0
IsKept tree = KeepsAnAction (main_line_of tree)

-- it is a game, for whose board memory is asked
abbrev pub IsGame : GameTree → Type 0
IsGame tree = (game : Actions) × (record_of_tree tree ≡ Ok (kind.Go game))

-- the input is too large, which comes first, or memory was wanting: for a tree, its record or its board only where there is one
-- that asks for it. Memory for the input comes before all of it.
abbrev pub IsListingFault : List ℕ → RunFault → Type 0
IsListingFault input (fault.Sgf sgf.TooLarge) = most_bytes < length input
IsListingFault input (fault.Sgf sgf.Memory) = (length input ≤ most_bytes) × HasTree IsTree input
IsListingFault input (fault.Record record_fault.Memory) = (length input ≤ most_bytes) × HasTree IsKept input
IsListingFault input (fault.Board found) = (length input ≤ most_bytes) × HasTree IsGame input
IsListingFault input fault.Memory = Unit {0}
IsListingFault input (fault.Sgf found) = ⊥
IsListingFault input (fault.Record found) = ⊥
IsListingFault input (fault.Glyph found) = ⊥
IsListingFault input (fault.Harvest found) = ⊥
IsListingFault input (fault.Dict n found) = ⊥
IsListingFault input fault.Usage = ⊥
IsListingFault input fault.Read = ⊥
IsListingFault input (fault.Write written) = ⊥
