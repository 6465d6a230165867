-- The games of a collection: the trees that are of Go and have no fault, in order. Trees of other games, and those with a
-- fault, are counted and contribute nothing.
use Rattle.std.specs.Prelude.{◌≡◌, ℕ, ◌+◌, List, [], ◌∷◌, Result, Ok, Err}
use Rattle.sgf_core.specs.Tree.{GameTree, main_line_of}
use Rattle.sgf_core.specs.Next.{IsNextTree}
use Rattle.go_record.specs.Record.{record_of}
use Rattle.go_record.specs.Actions.{Actions}
use Rattle.go_record.specs.declared.records.Kind.{Kind}
use Rattle.go_record.specs.declared.records.Kind.TheVariants as kind
use Rattle.go_record.specs.declared.faults.RecordFault.{RecordFault}

-- these trees stand one after another from a place on, and the last of them ends at `end`
abbrev pub AreTrees : List ℕ → ℕ → List GameTree → ℕ → Type 0
AreTrees bytes from [] end = from ≡ end
AreTrees bytes from (tree ∷ trees) end =
    (at : ℕ) × (next : ℕ) × IsNextTree bytes from at next tree × AreTrees bytes next trees end

-- the record of each tree
abbrev pub record_of_tree : GameTree → Result Kind RecordFault
record_of_tree tree = record_of (main_line_of tree)

-- the games among these records
abbrev pub games_among : List (Result Kind RecordFault) → List Actions
games_among [] = []
games_among (Ok (kind.Go game) ∷ records) = game ∷ games_among records
games_among (Ok kind.Other ∷ records) = games_among records
games_among (Err found ∷ records) = games_among records

-- how many trees are of other games
abbrev pub others_among : List (Result Kind RecordFault) → ℕ
others_among [] = 0
others_among (Ok (kind.Go game) ∷ records) = others_among records
others_among (Ok kind.Other ∷ records) = others_among records + 1
others_among (Err found ∷ records) = others_among records

-- how many trees have a fault
abbrev pub refused_among : List (Result Kind RecordFault) → ℕ
refused_among [] = 0
refused_among (Ok kind ∷ records) = refused_among records
refused_among (Err found ∷ records) = refused_among records + 1
