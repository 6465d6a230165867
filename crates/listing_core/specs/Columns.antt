-- What a game is asked for: the size of its board, and properties of its first node; and the columns that show them.
use Rattle.std.specs.Prelude.{ℕ, Option, Some, None, List, [], ◌∷◌, ◌++◌, codes}
use Rattle.std.specs.List.{flat_map}
use Rattle.std.specs.Fmt.{decimal}
use Rattle.sgf_core.specs.Tree.{PropertyValue, Node}
use Rattle.go_board.specs.Extent.{Extent}
use Rattle.go_record.specs.Record.{root_of, first_value}
use Rattle.go_record.specs.declared.faults.RecordFault.{RecordFault}
use Rattle.listing_core.specs.declared.keys.Key.{Key}
use Rattle.listing_core.specs.declared.keys.Key.TheVariants as key
use Rattle.listing_core.specs.declared.lines.Line.{Line}
use Rattle.listing_core.specs.declared.lines.What.{What}
use Rattle.listing_core.specs.declared.lines.What.TheVariants as what
use Rattle.listing_core.specs.Simple.{simple_text}
use Rattle.listing_core.specs.Lines.{record_fault_text, place_text, size_text, ending}

abbrev pub key_text : Key → List ℕ
key_text key.Size = codes "SZ"
key_text key.BlackName = codes "PB"
key_text key.WhiteName = codes "PW"
key_text key.BlackRank = codes "BR"
key_text key.WhiteRank = codes "WR"
key_text key.Date = codes "DT"
key_text key.Outcome = codes "RE"
key_text key.Handicap = codes "HA"
key_text key.Komi = codes "KM"

-- the keys that have a column of their own, in the order of their columns
abbrev pub shown_keys : List Key
shown_keys =
    key.BlackName ∷ key.WhiteName ∷ key.BlackRank ∷ key.WhiteRank ∷ key.Date ∷ key.Outcome ∷ key.Handicap ∷ key.Komi ∷ []

-- what a value says; nothing where there is none
abbrev pub value_text : Option PropertyValue → List ℕ
value_text None = []
value_text (Some value) = simple_text value.bytes

-- what the first value of the first property of this name says, in the first node of a main line
abbrev pub property_text : List ℕ → List Node → List ℕ
property_text name line = value_text (first_value name (root_of line))

-- what a game with a board of this size and with this main line says of a key
abbrev pub key_value : Key → List Node → Extent → List ℕ
key_value key.Size line size = size_text size
key_value key.BlackName line size = property_text (key_text key.BlackName) line
key_value key.WhiteName line size = property_text (key_text key.WhiteName) line
key_value key.BlackRank line size = property_text (key_text key.BlackRank) line
key_value key.WhiteRank line size = property_text (key_text key.WhiteRank) line
key_value key.Date line size = property_text (key_text key.Date) line
key_value key.Outcome line size = property_text (key_text key.Outcome) line
key_value key.Handicap line size = property_text (key_text key.Handicap) line
key_value key.Komi line size = property_text (key_text key.Komi) line

abbrev pub tab : List ℕ
tab = 9 ∷ []

-- a column, after those before it
abbrev pub column : List ℕ → List ℕ
column text = tab ++ text

-- the columns of these keys
abbrev pub key_columns : List Key → List Node → Extent → List ℕ
key_columns keys line size = flat_map (λ k. column (key_value k line size)) keys

-- eleven columns with nothing in them, which stand for those that only a game has
abbrev pub no_columns : List ℕ
no_columns = 9 ∷ 9 ∷ 9 ∷ 9 ∷ 9 ∷ 9 ∷ 9 ∷ 9 ∷ 9 ∷ 9 ∷ 9 ∷ []

-- the columns of a tree whose record has this fault
abbrev pub refused_columns : RecordFault → List ℕ
refused_columns fault = codes "refused " ++ record_fault_text fault ++ no_columns

-- what the tree is, with this main line: for a game its board, its moves, its occasions, and what its first node says
abbrev pub what_columns : List Node → What → List ℕ
what_columns line (what.Game size moves occasions) =
    codes "game" ++ column (size_text size) ++ column (decimal moves) ++ column (decimal occasions) ++ key_columns shown_keys line size
what_columns line what.Other = codes "other" ++ no_columns
what_columns line (what.Refused fault) = refused_columns fault

-- the columns of a tree with this main line, in a file of this name
abbrev pub columns_text : Option (List ℕ) → List Node → Line → List ℕ
columns_text name line found =
    place_text tab found.number found.from found.to ++ what_columns line found.what ++ ending tab name
