-- The hits of a collection: each time that a pattern which is looked for was played, or was there.
use Rattle.std.specs.Prelude.{◌≡◌, ◌≢◌, ◌⊎◌, ℕ, ◌+◌, ◌≤◌, List, [], ◌∷◌, ◌++◌, length, map, filter, take, Option, Some, None, Result, Ok, Err}
use Rattle.std.specs.List.{flat_map}
use Rattle.sgf_core.specs.Tree.{GameTree}
use Rattle.sgf_core.specs.Next.{IsNextTree}
use Rattle.go_board.specs.Extent.{Extent}
use Rattle.go_board.specs.declared.points.Point.{Point}
use Rattle.go_record.specs.declared.records.Kind.{Kind}
use Rattle.go_record.specs.declared.records.Kind.TheVariants as kind
use Rattle.go_record.specs.declared.faults.RecordFault.{RecordFault}
use Rattle.tally_core.specs.Occasions.{Occasion, is_empty}
use Rattle.tally_core.specs.Counts.{points_of}
use Rattle.game_core.specs.Collection.{record_of_tree, games_among}
use Rattle.hits_core.specs.declared.games.Game.{Game}
use Rattle.hits_core.specs.declared.hits.Hit.{Hit}
use Rattle.hits_core.specs.declared.searches.Sought.{Sought}
use Rattle.hits_core.specs.declared.searches.Sought.TheVariants as sought
use Rattle.hits_core.specs.Turns.{Turn, AreTurns}
use Rattle.hits_core.specs.Wanted.{wanted_at}

-- the points that are looked at: the move's own, or all empty points, row by row from the top, each row from the left
abbrev pub points_seen : Sought → Extent → Occasion → List Point
points_seen sought.Played size occasion = occasion.at ∷ []
points_seen sought.There size occasion = filter (λ point. is_empty (occasion.position point)) (points_of size)

-- the hits at a point, in a game
abbrev pub hits_at : List ℕ → Game → Turn → Point → List Hit
hits_at words game turn point =
    map
    (λ word. record { game = game.number; number = turn.number; at = point; mover = turn.occasion.mover; place = game.place; rows = game.recorded.size.rows; word = word })
    (wanted_at words game.recorded.size turn.occasion.position turn.occasion.mover point)

-- the hits of an occasion
abbrev pub hits_of_turn : Sought → List ℕ → Game → Turn → List Hit
hits_of_turn what words game turn =
    flat_map (hits_at words game turn) (points_seen what game.recorded.size turn.occasion)

-- these are the hits of a game, one occasion after another
pub record AreHitsOf (what : Sought) (words : List ℕ) (game : Game) (hits : List Hit) : Type 0 where
  pub turns : List Turn
  pub are_turns : AreTurns game.recorded turns
  pub each : hits ≡ flat_map (hits_of_turn what words game) turns

-- these are the hits of games, one game after another
abbrev pub AreHits : Sought → List ℕ → List Game → List Hit → Type 0
AreHits what words [] hits = hits ≡ []
AreHits what words (game ∷ games) hits =
    (here : List Hit) × (others : List Hit)
    × AreHitsOf what words game here
    × AreHits what words games others
    × (hits ≡ here ++ others)

-- the game that a tree of this record at a place is, where the next game has this number: none where it is of another game
-- or refused
abbrev pub game_of : Result Kind RecordFault → ℕ → ℕ → List Game
game_of (Ok (kind.Go game)) number place = record { number = number; place = place; recorded = game } ∷ []
game_of (Ok kind.Other) number place = []
game_of (Err found) number place = []

-- these trees stand one after another from a place on, and the last of them ends at `end`; these are their games, numbered
-- from `number` on, each with the place of its tree's first parenthesis
abbrev pub AreGames : List ℕ → ℕ → ℕ → List GameTree → ℕ → List Game → Type 0
AreGames bytes number from [] end games = (from ≡ end) × (games ≡ [])
AreGames bytes number from (tree ∷ trees) end games =
    (at : ℕ) × (next : ℕ) × (others : List Game)
    × IsNextTree bytes from at next tree
    × AreGames bytes (number + length (games_among (record_of_tree tree ∷ []))) next trees end others
    × (games ≡ game_of (record_of_tree tree) number at ++ others)

-- the first of a list, as many as are asked for
abbrev pub first_of : {A : Type 0} → Option ℕ → List A → List A
first_of None items = items
first_of (Some most) items = take most items

-- there are as many hits as are asked for, and one at least, by which it is known whether there are any
abbrev pub AreEnough : Option ℕ → List Hit → Type 0
AreEnough None hits = ⊥
AreEnough (Some most) hits = (most ≤ length hits) × (hits ≢ [])

-- these are the hits of the first of some games: of all of them, unless those have enough
pub record AreFirstHits (what : Sought) (words : List ℕ) (most : Option ℕ) (games : List Game) (hits : List Hit) : Type 0 where
  pub front : List Game
  pub rest : List Game
  pub all : games ≡ front ++ rest
  pub of_front : AreHits what words front hits
  pub enough : (rest ≡ []) ⊎ AreEnough most hits
