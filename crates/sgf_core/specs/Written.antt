-- What a tree that was read is: its bounds in the whole input, and its marks, which are those of some tree.
use Rattle.std.specs.Prelude.{◌≡◌, ◌<◌, ℕ, List}
use Rattle.sgf_core.specs.Tree.{GameTree}
use Rattle.sgf_core.specs.Grammar.{IsComplete}
use Rattle.sgf_core.specs.Marks.{marks_of}
use Rattle.sgf_core.specs.declared.marks.Mark.{Mark}

-- `at` is the place of the first parenthesis, and `end` the place after the last
pub record WrittenTree : Type 0 where
  pub at : ℕ
  pub end : ℕ
  pub marks : List Mark

-- the bounds are in order, and the marks are those of some tree of the grammar: it has a node, and each property a value
pub record IsSomeTree (read : WrittenTree) : Type 0 where
  pub bounds : read.at < read.end
  pub tree : GameTree
  pub complete : IsComplete tree
  pub marks : read.marks ≡ marks_of tree
