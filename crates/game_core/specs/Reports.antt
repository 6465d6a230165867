-- What the trees of a collection are: games, of other games, or refused.
use Rattle.std.specs.Prelude.{◌≡◌, List, length, map}
use Rattle.sgf_core.specs.Tree.{GameTree}
use Rattle.game_core.specs.Collection.{record_of_tree, games_among, others_among, refused_among}
use Rattle.game_core.specs.declared.reports.Report.{Report}

-- how many of these trees are of each sort
pub record IsReport (trees : List GameTree) (report : Report) : Type 0 where
  pub games : report.games ≡ length (games_among (map record_of_tree trees))
  pub others : report.others ≡ others_among (map record_of_tree trees)
  pub refused : report.refused ≡ refused_among (map record_of_tree trees)
