-- From a reader to a writer: the games of an input whose records earlier ones have.
use Rattle.std.specs.Prelude.{◌≡◌, ℕ, ◌+◌, ◌<◌, ◌≤◌, List, [], ◌∷◌, ◌++◌, length, Option, Result, Ok, Err}
use Rattle.sgf_core.specs.Limit.{most_bytes}
use Rattle.sgf_core.specs.Tree.{GameTree}
use Rattle.sgf_core.specs.Next.{IsNextTree}
use Rattle.sgf_core.specs.declared.faults.SgfFault.TheVariants as sgf
use Rattle.go_record.specs.declared.records.Kind.{Kind}
use Rattle.go_record.specs.declared.records.Kind.TheVariants as kind
use Rattle.go_record.specs.declared.faults.RecordFault.{RecordFault}
use Rattle.go_record.specs.declared.faults.RecordFault.TheVariants as record_fault
use Rattle.game_core.specs.Collection.{record_of_tree, games_among}
use Rattle.game_core.specs.Reports.{IsReport}
use Rattle.engine_core.specs.declared.faults.RunFault.{RunFault}
use Rattle.engine_core.specs.declared.faults.RunFault.TheVariants as fault
use Rattle.listing_core.specs.Listing.{HasTree, IsTree, IsKept, Stops}
use Rattle.listing_core.specs.declared.listings.Summary.{Summary}
use Rattle.twins_core.specs.Twins.{Met, AreTwins, Kept, Knows}

-- the game that a tree of this record is, if it is one, in a file of this name
abbrev pub met_of : Option (List ℕ) → Result Kind RecordFault → ℕ → ℕ → ℕ → List Met
met_of name (Ok (kind.Go game)) number from to = record { game = game; number = number; from = from; to = to; name = name } ∷ []
met_of name (Ok kind.Other) number from to = []
met_of name (Err found) number from to = []

-- these trees stand one after another from a place on, the last of them ends at `end`, and these are their games, numbered from
-- `number` on
abbrev pub AreMet : Option (List ℕ) → List ℕ → ℕ → ℕ → List GameTree → ℕ → List Met → Type 0
AreMet name bytes number place [] end mets = (place ≡ end) × (mets ≡ [])
AreMet name bytes number place (tree ∷ trees) end mets =
    (from : ℕ) × (to : ℕ) × (rest : List Met)
    × IsNextTree bytes place from to tree
    × AreMet name bytes (number + length (games_among (record_of_tree tree ∷ []))) to trees end rest
    × (mets ≡ met_of name (record_of_tree tree) number from to ++ rest)

-- the text names the games of this input whose records earlier ones have, where these games were met before it, and all of them
-- are known afterwards
pub record IsTwinsText (number : ℕ) (name : Option (List ℕ)) (before : List Met) (kept : List Kept) (found : Summary)
    (input text : List ℕ) : Type 0 where
  pub trees : List GameTree
  pub end : ℕ
  pub mets : List Met
  pub few : length input ≤ most_bytes
  pub of_trees : AreMet name input number 0 trees end mets
  pub stops : Stops found.listed input trees end
  pub reported : IsReport trees found.report
  pub twins : AreTwins before mets text
  pub known : Knows kept (before ++ mets)

abbrev pub HasTwinsText : ℕ → Option (List ℕ) → List Met → List Kept → List ℕ → List ℕ → Type 0
HasTwinsText number name before kept input text = (found : Summary) × IsTwinsText number name before kept found input text

-- the input is too large, which comes first, or memory was wanting: for a tree or its record only where there is one that asks for
-- it. Memory for the input, for the text and for what is kept of games comes besides
abbrev pub IsTwinsFault : List ℕ → RunFault → Type 0
IsTwinsFault input (fault.Sgf sgf.TooLarge) = most_bytes < length input
IsTwinsFault input (fault.Sgf sgf.Memory) = (length input ≤ most_bytes) × HasTree IsTree input
IsTwinsFault input (fault.Record record_fault.Memory) = (length input ≤ most_bytes) × HasTree IsKept input
IsTwinsFault input fault.Memory = Unit {0}
IsTwinsFault input (fault.Sgf found) = ⊥
IsTwinsFault input (fault.Record found) = ⊥
IsTwinsFault input (fault.Board found) = ⊥
IsTwinsFault input (fault.Glyph found) = ⊥
IsTwinsFault input (fault.Harvest found) = ⊥
IsTwinsFault input (fault.Dict n found) = ⊥
IsTwinsFault input fault.Usage = ⊥
IsTwinsFault input fault.Read = ⊥
IsTwinsFault input (fault.Write written) = ⊥
