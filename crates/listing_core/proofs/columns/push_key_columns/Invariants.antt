use Rattle.std.proofs.Common.{◌≡◌, ◌++◌, take}
use Rattle.sgf_core.specs.Marks.{marks_of}
use Rattle.sgf_core.specs.Tree.{GameTree, main_line_of}
use Rattle.listing_core.specs.Columns.{key_columns, shown_keys}
use Rattle.listing_core.proofs.columns.push_key_columns.Given as goal

abbrev pub invariant-loop-key : goal.invariant-loop-key
invariant-loop-key l =
    (game : GameTree) → l.tree.marks ≡ marks_of game
    → l.text.items ≡ l.fn.text.items ++ key_columns (take l.key-index shown_keys) (main_line_of game) l.size
