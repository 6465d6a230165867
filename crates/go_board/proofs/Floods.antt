-- A group is found from one of its points: where each point found has been visited, all joined points are found.
use Rattle.std.proofs.Common.{◌≡◌, ◌∙◌, ◌+◌, ◌<◌, ◌≤◌, ℕ, List, ◌++◌, length, take, get_or, subst, sym, ap, arith, All, Contains, length-append}
use Rattle.std.proofs.lemmas.List.{take_all, take-append-le, get_or_append_left, get_or_default}
use Rattle.std.proofs.lemmas.List.Elements.{All-append, All-more, All-weaker, All-contains, Contains-append_left}
use Rattle.go_board.specs.declared.points.Point.{Point}
use Rattle.go_board.specs.declared.points.Stone.{Stone}
use Rattle.go_board.specs.Extent.{Extent}
use Rattle.go_board.specs.Point.{IsOn}
use Rattle.go_board.specs.Position.{Position, AreJoined, IsAlive}
use Rattle.go_board.specs.Inner.Groups.{Gathers, IsSuchNeighbour, IsSurrounded}
use Rattle.go_board.proofs.Paths.{along, AreJoined-step}

-- q is on the board and joined to p
pub record IsMember (size : Extent) (position : Position) (p q : Point) : Type 0 where
  pub on_board : IsOn size q
  pub joined : AreJoined size position p q

-- the points found from p, of which the first `next` were visited
pub record Flooding (size : Extent) (position : Position) (p : Point) (kind : Stone) (points : List Point) (next : ℕ) : Type 0 where
  pub of_kind : position p ≡ kind
  pub start : Contains points p
  pub members : All (IsMember size position p) points
  pub visited : All (IsSurrounded size position kind points) (take next points)
  pub upto : next ≤ length points

module _ (size : Extent) (position : Position) (p : Point) (kind : Stone) where
  pub member_at : (points : List Point) (next : ℕ) (m : Point) → Flooding size position p kind points next → next < length points →
      m ≡ get_or points next m → IsMember size position p m
  member_at points next m f in' at = subst (IsMember size position p) (sym at) (f.members next m in')

  surrounded_still : (points more : List Point) (q : Point) → IsSurrounded size position kind points q → IsSurrounded size position kind (points ++ more) q
  surrounded_still points more q s = record {
    full = s.full;
    listed = λ x such. Contains-append_left points more x (s.listed x such);
  }

  pub Flooding-more : (points now : List Point) (next : ℕ) (m : Point) → Flooding size position p kind points next → next < length points →
      m ≡ get_or points next m → Gathers size position kind m points now → IsSurrounded size position kind now m →
      Flooding size position p kind now (next + 1)
  Flooding-more points now next m f in' at g s =
      let joined = member_at points next m f in' at in
      subst (λ (l : List Point). Flooding size position p kind l (next + 1)) (sym g.appended) (record {
        of_kind = f.of_kind;
        start = Contains-append_left points g.more p f.start;
        members = All-append (IsMember size position p) points g.more f.members
            (All-weaker (IsSuchNeighbour size position kind m) (IsMember size position p)
            (λ x such. record {
              on_board = such.on_board;
              joined = AreJoined-step size position p m x joined.joined such.next_to such.on_board (such.of_kind ∙ sym f.of_kind);
            })
            g.more g.only);
        visited = All-more (IsSurrounded size position kind (points ++ g.more)) (points ++ g.more) next m
            (omega (arith, in', length-append points g.more))
            (subst (All (IsSurrounded size position kind (points ++ g.more))) (sym (take-append-le next points g.more (omega (arith, in'))))
            (All-weaker (IsSurrounded size position kind points) (IsSurrounded size position kind (points ++ g.more))
            (surrounded_still points g.more) (take next points) f.visited))
            (subst (IsSurrounded size position kind (points ++ g.more)) (at ∙ sym (get_or_append_left points g.more m next in'))
            (subst (λ (l : List Point). IsSurrounded size position kind l m) g.appended s));
        upto = omega (arith, in', length-append points g.more);
      })

  module _ (points : List Point) (next : ℕ) (f : Flooding size position p kind points next) (past : length points ≤ next) where
    all_visited : All (IsSurrounded size position kind points) points
    all_visited = subst (All (IsSurrounded size position kind points)) (take_all next points past) f.visited

    found : (q : Point) → AreJoined size position p q → Contains points q
    found q j = along size position p (Contains points)
        (λ a b has next_to on same.
        (All-contains (IsSurrounded size position kind points) points a all_visited has).listed b
        (record { on_board = on; next_to = next_to; of_kind = same ∙ f.of_kind }))
        f.start q j

    pub Flooding-group : (q : Point) → (Contains points q → AreJoined size position p q) × (AreJoined size position p q → Contains points q)
    Flooding-group q = ((λ has. (All-contains (IsMember size position p) points q f.members has).joined), found q)

    pub Flooding-dead : IsAlive size position p → ⊥
    Flooding-dead a =
        (All-contains (IsSurrounded size position kind points) points a.member all_visited (found a.member a.joined)).full
        a.liberty a.on_board a.neighbours a.empty

-- what is read at a place of a list
pub read_at : (points read : List Point) (next : ℕ) (d : Point) → next < length points → read ≡ points →
    get_or read next d ≡ get_or points next (get_or read next d)
read_at points read next d in' e =
    ap (λ (l : List Point). get_or l next d) e ∙ get_or_default points next d (get_or read next d) in'
