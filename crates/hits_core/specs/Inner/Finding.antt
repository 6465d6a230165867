-- What is found, step by step.
use Rattle.std.specs.Prelude.{◌≡◌, ℕ, ◌≤◌, ◌<◌, List, [], ◌∷◌, ◌++◌, length, slice_index_or, All, Option, Some, None}
use Rattle.std.specs.List.{flat_map}
use Rattle.go_board.specs.Position.{Position}
use Rattle.go_board.specs.declared.points.Colour.{Colour}
use Rattle.go_board.specs.declared.points.Point.{Point}
use Rattle.go_record.specs.declared.actions.Action.{Action}
use Rattle.shape_core.specs.Word.{kind_of}
use Rattle.shape_core.specs.declared.words.Kind.TheVariants as kind
use Rattle.shape_core.specs.declared.words.Kinds.{Kinds}
use Rattle.shape_core.specs.declared.words.Kinds.TheVariants as kinds
use Rattle.hits_core.specs.declared.found.Found.{Found}
use Rattle.hits_core.specs.declared.games.Game.{Game}
use Rattle.hits_core.specs.declared.hits.Hit.{Hit}
use Rattle.hits_core.specs.declared.looking.Moment.{Moment}
use Rattle.hits_core.specs.declared.looking.Sight.{Sight}
use Rattle.hits_core.specs.declared.searches.Sought.{Sought}
use Rattle.hits_core.specs.Hits.{first_of, hits_of_turn, AreHitsOf}
use Rattle.hits_core.specs.Turns.{Turn, HasTurns}

-- words that rise, of these kinds
pub record AreWanted (kinds_among : Kinds) (words : List ℕ) : Type 0 where
  pub rise : (i j : ℕ) → i ≤ j → j < length words → slice_index_or words i 0 ≤ slice_index_or words j 0
  pub squares : kinds_among ≡ kinds.Squares → All (λ word. kind_of word ≡ kind.Square) words

-- none or one
abbrev pub listed : Option ℕ → List ℕ
listed None = []
listed (Some word) = word ∷ []

-- the patterns of a sight, the square first
abbrev pub patterns_in : Sight → List ℕ
patterns_in sight = listed sight.square ++ listed sight.diamond

-- the occasion of a move by this colour in a game, where the move has this number
abbrev pub moment_on : Game → ℕ → Colour → Moment
moment_on game number mover =
    record {
      game = game.number;
      place = game.place;
      rows = game.recorded.size.rows;
      number = number;
      mover = mover;
    }

-- the hit of a word at a point
abbrev pub hit_in : Moment → Point → ℕ → Hit
hit_in moment point word =
    record {
      game = moment.game;
      number = moment.number;
      at = point;
      mover = moment.mover;
      place = moment.place;
      rows = moment.rows;
      word = word;
    }

-- as many hits as are asked for
abbrev pub IsFull : Option ℕ → List Hit → Type 0
IsFull None hits = ⊥
IsFull (Some most) hits = most ≤ length hits

-- there are no more hits than are asked for
abbrev pub IsWithin : Found → Type 0
IsWithin found = first_of found.most found.hits.items ≡ found.hits.items

-- these hits were added, as far as they are asked for
pub record GrowsBy (before after : Found) (hits : List Hit) : Type 0 where
  pub most : after.most ≡ before.most
  pub is : IsWithin before → after.hits.items ≡ first_of before.most (before.hits.items ++ hits)

-- of all these hits those were added that come before those that are left
pub record AddsUpTo (before after : Found) (all left : List Hit) : Type 0 where
  pub done : List Hit
  pub parts : done ++ left ≡ all
  pub grown : GrowsBy before after done

-- the hits of a game were added
pub record AddsGame (what : Sought) (words : List ℕ) (game : Game) (before after : Found) : Type 0 where
  pub hits : List Hit
  pub of_game : AreHitsOf what words game hits
  pub grown : GrowsBy before after hits

-- the hits of the first actions of a game were added: whatever occasions the others have, all have these and those
pub record IsFront (what : Sought) (words : List ℕ) (game : Game) (start now : Position) (left : List Action) (number : ℕ) (before after : Found) : Type 0 where
  pub done : List Turn
  pub others :
      (others : List Turn) → HasTurns game.recorded.size left number now others →
      HasTurns game.recorded.size game.recorded.actions 1 start (done ++ others)
  pub grown : GrowsBy before after (flat_map (hits_of_turn what words game) done)
