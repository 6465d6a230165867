-- Positions, and the rule of capture by liberties: which stones are joined, and which are alive.
use Rattle.std.specs.Prelude.{◌≡◌, List, [], ◌∷◌, if◌then◌else◌, slice_index_or}
use Rattle.go_board.specs.declared.points.Point.{Point}
use Rattle.go_board.specs.Extent.{Extent}
use Rattle.go_board.specs.declared.points.Stone.{Stone}
use Rattle.go_board.specs.declared.points.Stone.TheVariants as stone
use Rattle.go_board.specs.Point.{IsOn, is_on, AreNeighbours, same_point, index_of}

-- what stands on each point; only the points of the board matter
abbrev pub Position : Type 0
Position = Point → Stone

-- two positions are the same on a board
abbrev pub AreSame : Extent → Position → Position → Type 0
AreSame size p q = (point : Point) → IsOn size point → p point ≡ q point

-- the position that a list of stones is, row by row from the top, each row from the left; each point off the board is
-- empty
abbrev pub position_in : Extent → List Stone → Position
position_in size stones p =
    if is_on size p then slice_index_or stones (index_of size p) stone.Empty else stone.Empty

-- the position with this stone at a point, whatever stood there
abbrev pub placed : Position → Point → Stone → Position
placed position point stone q = if same_point q point then stone else position q

-- a list of points leads from p to q: each is a point of the board with this stone, and a neighbour of the one before
abbrev pub Leads : Extent → Position → Stone → Point → List Point → Point → Type 0
Leads size position stone p [] q = p ≡ q
Leads size position stone p (next ∷ path) q =
    AreNeighbours p next × IsOn size next × (position next ≡ stone) × Leads size position stone next path q

-- q is joined to p: points of p's colour lead from one to the other
pub record AreJoined (size : Extent) (position : Position) (p q : Point) : Type 0 where
  pub path : List Point
  pub leads : Leads size position (position p) p path q

-- a stone is alive where a point joined to it has an empty neighbour, a liberty
pub record IsAlive (size : Extent) (position : Position) (p : Point) : Type 0 where
  pub member : Point
  pub liberty : Point
  pub joined : AreJoined size position p member
  pub neighbours : AreNeighbours member liberty
  pub on_board : IsOn size liberty
  pub empty : position liberty ≡ stone.Empty
