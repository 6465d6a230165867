-- How much a tree has in it.
use Rattle.std.specs.Prelude.{ℕ, List, length, sum_by}
use Rattle.sgf_core.specs.Tree.{Node}

-- the number of values of these nodes
abbrev pub value_count : List Node → ℕ
value_count nodes = sum_by (λ node. sum_by (λ property. length property.values) node) nodes
