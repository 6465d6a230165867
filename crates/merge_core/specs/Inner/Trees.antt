-- What a tree of joins gives.
use Rattle.std.specs.Prelude.{◌≡◌, ◌<◌, List, [], ◌∷◌, Option, Some, None, MatchOption}
use Rattle.shape_dict.specs.declared.entries.Entry.{Entry}
use Rattle.shape_dict.specs.Inner.Merging.{merged}
use Rattle.merge_core.specs.declared.heads.Heads.{Heads}
use Rattle.merge_core.specs.declared.heads.First.{First}
use Rattle.merge_core.specs.declared.heads.First.TheVariants as first
use Rattle.merge_core.specs.declared.trees.Tree.{Tree, Leaf, Node'}

-- a list whose first entry has been taken, and what is known of the others
abbrev pub Comes : Option Entry → (List Entry → Type 0) → List Entry → Type 0
Comes head Rest entries = MatchOption head (entries ≡ []) (λ entry. (others : List Entry) × (entries ≡ entry ∷ others) × Rest others)

-- these entries are what the tree gives, where `Leaf` says it of a list
abbrev pub Yields : {E : Type 0} → (E → List Entry → Type 0) → Tree E → List Entry → Type 0
Yields Of (Leaf leaf) entries = Of leaf entries
Yields Of (Node' p left q right heads) entries =
    (mine : List Entry) × (other : List Entry) × Comes heads.left (Yields Of left) mine × Comes heads.right (Yields Of right) other × (entries ≡ merged heads.games mine other)

-- which of two heads has the lesser word
abbrev pub IsFirst : Heads → First → Type 0
IsFirst heads first.Neither = (heads.left ≡ None) × (heads.right ≡ None)
IsFirst heads (first.Left entry) = (heads.left ≡ Some entry) × MatchOption heads.right (Unit {0}) (λ other. entry.shape < other.shape)
IsFirst heads (first.Right entry) = (heads.right ≡ Some entry) × MatchOption heads.left (Unit {0}) (λ mine. entry.shape < mine.shape)
IsFirst heads (first.Both mine other) = (heads.left ≡ Some mine) × (heads.right ≡ Some other) × (mine.shape ≡ other.shape)
