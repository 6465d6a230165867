use Rattle.std.proofs.Common.{◌≡◌, true, take}
use Rattle.sgf_core.specs.Marks.{marks_of}
use Rattle.sgf_core.specs.Tree.{GameTree, main_line_of}
use Rattle.listing_core.specs.Conditions.{meets_all}
use Rattle.listing_core.proofs.conditions.meets_all.Given as goal

abbrev pub invariant-loop-condition : goal.invariant-loop-condition
invariant-loop-condition l =
    (game : GameTree) → l.tree.marks ≡ marks_of game
    → meets_all (take l.condition-index l.conditions) (main_line_of game) l.size ≡ true
