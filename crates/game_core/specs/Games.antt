-- A game among the trees of an input, with its number and its record, and what the trees of an input are.
use Rattle.std.specs.Prelude.{◌≡◌, ℕ, ◌≤◌, List, length, map, Ok}
use Rattle.sgf_core.specs.Tree.{GameTree}
use Rattle.sgf_core.specs.Next.{IsNextTree, HasNoTree}
use Rattle.go_record.specs.Actions.{Actions}
use Rattle.go_record.specs.declared.records.Kind.TheVariants as kind
use Rattle.game_core.specs.Collection.{AreTrees, record_of_tree, games_among}
use Rattle.game_core.specs.Reports.{IsReport}
use Rattle.game_core.specs.declared.reports.Report.{Report}
use Rattle.sgf_core.specs.Limit.{most_bytes}

-- a game as it is written in an input: its number, where its tree begins and ends, and its record
pub record WrittenGame : Type 0 where
  pub bytes : List ℕ
  pub game : ℕ
  pub at : ℕ
  pub end : ℕ
  pub actions : Actions

-- in these bytes the tree from `at` to `end` is the game of this number, and this is its record
pub record IsGameOf (bytes : List ℕ) (game at end : ℕ) (actions : Actions) : Type 0 where
  pub before : List GameTree
  pub from : ℕ
  pub tree : GameTree
  pub written : AreTrees bytes 0 before from
  pub next : IsNextTree bytes from at end tree
  pub numbered : game ≡ length (games_among (map record_of_tree before))
  pub is_go : record_of_tree tree ≡ Ok (kind.Go actions)

-- the trees up to a place were read, and this is what they are: of each sort no more than bytes before the place
pub record HasRead (bytes : List ℕ) (from : ℕ) (report : Report) : Type 0 where
  pub trees : List GameTree
  pub written : AreTrees bytes 0 trees from
  pub reported : IsReport trees report
  pub small : length bytes ≤ most_bytes
  pub in_input : from ≤ length bytes
  pub games : report.games ≤ from
  pub others : report.others ≤ from
  pub refused : report.refused ≤ from

-- all trees of an input were read, and this is what they are
pub record HasReadAll (bytes : List ℕ) (report : Report) : Type 0 where
  pub trees : List GameTree
  pub end : ℕ
  pub small : length bytes ≤ most_bytes
  pub written : AreTrees bytes 0 trees end
  pub no_more : HasNoTree bytes end
  pub reported : IsReport trees report
