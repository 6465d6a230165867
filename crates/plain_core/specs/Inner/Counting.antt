-- What a counter holds once some games of a collection were counted.
use Rattle.std.specs.Prelude.{◌≡◌, ℕ, ◌*◌, ◌≤◌, List, map, length}
use Rattle.sgf_core.specs.Tree.{GameTree}
use Rattle.game_core.specs.Collection.{AreTrees, record_of_tree, games_among}
use Rattle.game_core.specs.Games.{HasReadAll}
use Rattle.game_core.specs.declared.reports.Report.{Report}
use Rattle.shape_core.specs.declared.words.Kinds.{Kinds}
use Rattle.shape_dict.specs.declared.entries.Entry.{Entry}
use Rattle.tally_core.specs.Counts.{Replayed}
use Rattle.tally_core.specs.Collection.{AreReplayed}
use Rattle.plain_core.specs.Inner.Counter.{CountsGames, count_in, uses_at}
use Rattle.plain_core.specs.Inner.Entries.{AreEntered}
use Rattle.plain_core.specs.declared.counting.Counter.{Counter}

-- the games of an input below this number were counted: those of some of its first trees
pub record CountsUpTo (kinds : Kinds) (bytes : List ℕ) (number : ℕ) (counter : Counter) : Type 0 where
  pub trees : List GameTree
  pub end : ℕ
  pub games : List Replayed
  pub written : AreTrees bytes 0 trees end
  pub numbered : number ≡ length (games_among (map record_of_tree trees))
  pub replayed : AreReplayed (games_among (map record_of_tree trees)) games
  pub counted : CountsGames kinds games (count_in counter.counts) counter.moves

-- the numbers of a counter are as small as the place up to which the input was counted
pub record IsWithin (place : ℕ) (counter : Counter) : Type 0 where
  pub moves : counter.moves ≤ place
  pub uses : (shape : ℕ) → uses_at (count_in counter.counts shape) ≤ 5410 * place

-- all games of an input were counted, and its trees are these
pub record CountsAll (kinds : Kinds) (bytes : List ℕ) (report : Report) (counter : Counter) : Type 0 where
  pub read : HasReadAll bytes report
  pub games : List Replayed
  pub replayed : AreReplayed (games_among (map record_of_tree read.trees)) games
  pub counted : CountsGames kinds games (count_in counter.counts) counter.moves

-- what is left of a counter: its moves, and the entries of its counts
pub record IsEndOf (counter : Counter) (moves : ℕ) (entries : List Entry) : Type 0 where
  pub moves_left : counter.moves ≡ moves
  pub entered : AreEntered (count_in counter.counts) entries
