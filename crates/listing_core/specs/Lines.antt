-- The lines of a listing, and their texts.
use Rattle.std.specs.Prelude.{ℕ, List, ◌++◌, Option, Some, None, codes}
use Rattle.std.specs.Fmt.{decimal}
use Rattle.game_files.specs.Shown.{shown_name}
use Rattle.go_board.specs.Extent.{Extent}
use Rattle.go_record.specs.declared.faults.RecordFault.{RecordFault}
use Rattle.go_record.specs.declared.faults.RecordFault.TheVariants as record_fault
use Rattle.sgf_core.specs.declared.faults.SgfFault.{SgfFault}
use Rattle.sgf_core.specs.declared.faults.SgfFault.TheVariants as sgf
use Rattle.shape_dict.specs.Text.{line_feed}
use Rattle.listing_core.specs.declared.lines.Line.{Line}
use Rattle.listing_core.specs.declared.lines.What.{What}
use Rattle.listing_core.specs.declared.lines.What.TheVariants as what

-- the fault of a record, as the programs name it
abbrev pub record_fault_text : RecordFault → List ℕ
record_fault_text (record_fault.BadSize at) = codes "G1 bad size at " ++ decimal at
record_fault_text (record_fault.BadPoint at) = codes "G2 bad point at " ++ decimal at
record_fault_text (record_fault.OffBoard at) = codes "G3 off the board at " ++ decimal at
record_fault_text record_fault.Memory = codes "G4 no memory"

-- the fault of a collection, as the programs name it
abbrev pub sgf_fault_text : SgfFault → List ℕ
sgf_fault_text (sgf.Truncated at) = codes "S1 truncated tree at " ++ decimal at
sgf_fault_text (sgf.BadByte at) = codes "S2 bad byte at " ++ decimal at
sgf_fault_text (sgf.NoValue at) = codes "S3 no value at " ++ decimal at
sgf_fault_text sgf.TooLarge = codes "S4 input too large"
sgf_fault_text sgf.Memory = codes "S5 no memory"

-- the number of a game, and `-` where the tree is none
abbrev pub number_text : Option ℕ → List ℕ
number_text None = codes "-"
number_text (Some number) = decimal number

-- the number of a game, and where its tree begins and where it ends, with this after each
abbrev pub place_text : List ℕ → Option ℕ → ℕ → ℕ → List ℕ
place_text between number from to = number_text number ++ between ++ decimal from ++ between ++ decimal to ++ between

-- a board's size
abbrev pub size_text : Extent → List ℕ
size_text size = decimal size.columns ++ codes "x" ++ decimal size.rows

-- what the tree is
abbrev pub what_text : What → List ℕ
what_text (what.Game size moves occasions) =
    codes "game " ++ size_text size ++ codes " moves " ++ decimal moves ++ codes " occasions " ++ decimal occasions
what_text what.Other = codes "other"
what_text (what.Refused fault) = codes "refused " ++ record_fault_text fault

-- the end of a line: the name of the file, where there is one, after this
abbrev pub ending : List ℕ → Option (List ℕ) → List ℕ
ending before None = line_feed
ending before (Some name) = before ++ shown_name name ++ line_feed

abbrev pub space : List ℕ
space = codes " "

-- the line of a tree, in a file of this name
abbrev pub line_text : Option (List ℕ) → Line → List ℕ
line_text name line = place_text space line.number line.from line.to ++ what_text line.what ++ ending space name

-- the last line of an input with a fault of syntax, which is looked for from `from` on: its parts with this between them, and
-- these columns after the fault
abbrev pub fault_line : List ℕ → List ℕ → Option (List ℕ) → ℕ → ℕ → SgfFault → List ℕ
fault_line between columns name from to fault =
    place_text between None from to ++ codes "fault " ++ sgf_fault_text fault ++ columns ++ ending between name
