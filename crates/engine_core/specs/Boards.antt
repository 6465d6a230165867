-- The text that `board` prints: the final position of the first tree's main line.
use Rattle.std.specs.Prelude.{◌≡◌, ◌⊎◌, ℕ, ◌<◌, ◌≤◌, List, [], ◌∷◌, ◌++◌, length, map, Result, Ok, Err}
use Rattle.std.specs.List.{flat_map}
use Rattle.shape_core.specs.Word.{count_from}
use Rattle.sgf_core.specs.Tree.{GameTree, main_line_of}
use Rattle.sgf_core.specs.Next.{IsNextTree, HasNoTree}
use Rattle.go_board.specs.Extent.{Extent}
use Rattle.go_board.specs.Position.{Position}
use Rattle.go_board.specs.declared.points.Stone.{Stone}
use Rattle.go_board.specs.declared.points.Stone.TheVariants as stone
use Rattle.go_record.specs.Actions.{Actions}
use Rattle.go_record.specs.Record.{record_of}
use Rattle.go_record.specs.Replay.{empty_position, Replays}
use Rattle.go_board.specs.Position.{AreSame}
use Rattle.go_record.specs.declared.records.Kind.{Kind}
use Rattle.go_record.specs.declared.records.Kind.TheVariants as kind
use Rattle.go_record.specs.Adding.{KeepsAnAction}
use Rattle.go_record.specs.declared.faults.RecordFault.{RecordFault}
use Rattle.go_record.specs.declared.faults.RecordFault.TheVariants as record_fault
use Rattle.sgf_core.specs.Reading.{IsFaultOrMemory}
use Rattle.sgf_core.specs.declared.faults.SgfFault.TheVariants as sgf
use Rattle.engine_core.specs.declared.faults.RunFault.{RunFault}
use Rattle.engine_core.specs.declared.faults.RunFault.TheVariants as fault
use Rattle.sgf_core.specs.Limit.{most_bytes}

-- `.`, `X` and `O`
abbrev pub glyph_of : Stone → ℕ
glyph_of stone.Empty = 46
glyph_of stone.Black = 88
glyph_of stone.White = 79

-- the glyphs of a row from the left, and a line feed
abbrev pub row_text : Extent → Position → ℕ → List ℕ
row_text size position row =
    map (λ column. glyph_of (position (record { column = column; row = row }))) (count_from 0 size.columns) ++ 10 ∷ []

-- the rows from the top
abbrev pub position_text : Extent → Position → List ℕ
position_text size position = flat_map (row_text size position) (count_from 0 size.rows)

-- a position that the game ends in, from an empty board on
pub record IsFinal (game : Actions) (final : Position) : Type 0 where
  pub start : Position
  pub empty : AreSame game.size start empty_position
  pub replayed : Replays game.size game.actions start final

-- the input has at most 2 ^ 28 bytes, and the text is that of the final position of its first tree
pub record IsBoardText (input text : List ℕ) : Type 0 where
  pub few : length input ≤ most_bytes
  pub at : ℕ
  pub end : ℕ
  pub tree : GameTree
  pub game : Actions
  pub final : Position
  pub first : IsNextTree input 0 at end tree
  pub recorded : record_of (main_line_of tree) ≡ Ok (kind.Go game)
  pub ends : IsFinal game final
  pub printed : text ≡ position_text game.size final

-- the record of the first tree's main line is this, whatever it is
pub record FirstIs (input : List ℕ) (recorded : Result Kind RecordFault) : Type 0 where
  pub at : ℕ
  pub end : ℕ
  pub tree : GameTree
  pub first : IsNextTree input 0 at end tree
  pub recorded_so : record_of (main_line_of tree) ≡ recorded

-- reading the record of the first tree keeps an action, for which memory is asked
pub record FirstKeepsAnAction (input : List ℕ) : Type 0 where
  pub at : ℕ
  pub end : ℕ
  pub tree : GameTree
  pub first : IsNextTree input 0 at end tree
  pub keeps : KeepsAnAction (main_line_of tree)

-- the first tree is a game, for whose board memory is asked
abbrev pub FirstIsGame : List ℕ → Type 0
FirstIsGame input = (game : Actions) × FirstIs input (Ok (kind.Go game))

-- the input has at most 2 ^ 28 bytes, and there is no tree in it, or the first is of another game
abbrev pub HasNoBoard : List ℕ → Type 0
HasNoBoard input = (length input ≤ most_bytes) × (HasNoTree input 0 ⊎ FirstIs input (Ok kind.Other))

-- the input is too large, which comes first, or has the fault's cause, or memory was wanting where it is asked for
abbrev pub IsBoardFault : List ℕ → RunFault → Type 0
IsBoardFault input (fault.Sgf sgf.TooLarge) = most_bytes < length input
IsBoardFault input (fault.Sgf found) = (length input ≤ most_bytes) × IsFaultOrMemory input 0 found
IsBoardFault input (fault.Record record_fault.Memory) = (length input ≤ most_bytes) × FirstKeepsAnAction input
IsBoardFault input (fault.Record found) = (length input ≤ most_bytes) × FirstIs input (Err found)
IsBoardFault input (fault.Board found) = (length input ≤ most_bytes) × FirstIsGame input
IsBoardFault input fault.Memory = Unit {0}
IsBoardFault input (fault.Glyph found) = ⊥
IsBoardFault input (fault.Harvest found) = ⊥
IsBoardFault input (fault.Dict n found) = ⊥
IsBoardFault input fault.Usage = ⊥
IsBoardFault input fault.Read = ⊥
IsBoardFault input (fault.Write written) = ⊥
