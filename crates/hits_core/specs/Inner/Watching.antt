-- Points that have to be looked at: each other point has no wanted pattern.
use Rattle.std.specs.Prelude.{◌≡◌, ◌⊎◌, ℕ, ◌^◌, ◌<◌, false, List, [], ◌∷◌, length, map, filter, slice_index}
use Rattle.std.specs.List.{flat_map}
use Rattle.std.specs.Int.{bit_at}
use Rattle.go_board.specs.Extent.{Extent}
use Rattle.go_board.specs.Position.{Position, AreSame}
use Rattle.go_board.specs.Board.{position_of}
use Rattle.go_board.specs.declared.points.Point.{Point}
use Rattle.go_board.specs.declared.points.Colour.{Colour}
use Rattle.go_board.specs.declared.points.Colour.TheVariants as colour
use Rattle.go_record.specs.Replay.{empty_position}
use Rattle.shape_core.specs.Field.{Kept}
use Rattle.shape_core.specs.Word.{kind_of}
use Rattle.shape_core.specs.declared.words.Kind.TheVariants as kind
use Rattle.shape_core.specs.declared.words.Kinds.TheVariants as kinds
use Rattle.tally_core.specs.Occasions.{is_empty}
use Rattle.hits_core.specs.declared.hits.Hit.{Hit}
use Rattle.hits_core.specs.declared.looking.Moment.{Moment}
use Rattle.hits_core.specs.declared.watching.Watch.{Watch}
use Rattle.hits_core.specs.Wanted.{is_wanted, wanted_at}
use Rattle.hits_core.specs.Inner.Finding.{hit_in}

-- where a field keeps squares alone, no diamond is wanted
abbrev pub KeepsWanted : Kept → List ℕ → Type 0
KeepsWanted field words =
    field.kinds ≡ kinds.Squares → (word : ℕ) → kind_of word ≡ kind.Diamond → is_wanted words word ≡ false

-- the wanted patterns of the empty ones of these points
abbrev pub wanted_over : List ℕ → Extent → Position → Colour → List Point → List ℕ
wanted_over words size position mover points =
    flat_map (wanted_at words size position mover) (filter (λ q. is_empty (position q)) points)

-- the hits at a point of a field
abbrev pub hits_for : List ℕ → Kept → Moment → Point → List Hit
hits_for words field moment q =
    map (hit_in moment q) (wanted_at words field.board.size (position_of field.board) moment.mover q)

-- the hits at the empty ones of these points
abbrev pub hits_over : List ℕ → Kept → Moment → List Point → List Hit
hits_over words field moment points =
    flat_map (hits_for words field moment) (filter (λ q. is_empty (position_of field.board q)) points)

-- a point has no wanted pattern, or a stone
abbrev pub HasNone : List ℕ → Kept → Colour → Point → Type 0
HasNone words field mover q =
    wanted_over words field.board.size (position_of field.board) mover (q ∷ []) ≡ []

-- a point whose bit is not set has no wanted pattern
abbrev pub IsOpenAt : List ℕ → Kept → Colour → ℕ → Point → Type 0
IsOpenAt words field mover bits q = (bit_at bits q.column ≡ 1) ⊎ HasNone words field mover q

-- this is the bit of a point, or no bit, and it has no wanted pattern
abbrev pub IsBitOrNone : List ℕ → Kept → Colour → ℕ → Point → Type 0
IsBitOrNone words field mover bit q = (bit ≡ 2 ^ q.column) ⊎ ((bit ≡ 0) × HasNone words field mover q)

-- each point of a row whose bit is not set has no wanted pattern
pub record IsOpenRow (words : List ℕ) (field : Kept) (mover : Colour) (row bits : ℕ) : Type 0 where
  pub few : bits < 2 ^ field.board.size.columns
  pub each :
      (column : ℕ) → column < field.board.size.columns →
      IsOpenAt words field mover bits (record { column = column; row = row })

-- the same of all rows
pub record AreOpen (words : List ℕ) (field : Kept) (mover : Colour) (open_rows : List ℕ) : Type 0 where
  pub rows : length open_rows ≡ field.board.size.rows
  pub each : (row : ℕ) → row < field.board.size.rows → IsOpenRow words field mover row (slice_index open_rows row)

-- the same for both colours
pub record IsWatched (words : List ℕ) (watch : Watch) : Type 0 where
  pub keeps : KeepsWanted watch.field words
  pub black : AreOpen words watch.field colour.Black watch.black.items
  pub white : AreOpen words watch.field colour.White watch.white.items

-- a game is watched from the empty board on
pub record IsNewWatch (size : Extent) (watch : Watch) : Type 0 where
  pub sized : watch.field.board.size ≡ size
  pub empty : AreSame size (position_of watch.field.board) empty_position
