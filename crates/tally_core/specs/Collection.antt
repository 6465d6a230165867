-- The games of a collection, replayed.
use Rattle.std.specs.Prelude.{◌≡◌, List, [], ◌∷◌}
use Rattle.go_record.specs.Actions.{Actions}
use Rattle.tally_core.specs.Occasions.{AreOccasions}
use Rattle.tally_core.specs.Counts.{Replayed}

-- the games, replayed
abbrev pub AreReplayed : List Actions → List Replayed → Type 0
AreReplayed [] [] = Unit {0}
AreReplayed (game ∷ games) (replayed ∷ others) =
    (replayed.size ≡ game.size) × AreOccasions game replayed.occasions × AreReplayed games others
AreReplayed [] (replayed ∷ others) = ⊥
AreReplayed (game ∷ games) [] = ⊥
