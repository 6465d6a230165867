-- Paths of stones: joined is reflexive, symmetric and transitive, and depends on the points of the board alone.
use Rattle.std.proofs.Common.{◌≡◌, ◌∙◌, List, [], ◌∷◌, ◌++◌, subst, sym, inl, inr, refl, ℕ}
use Rattle.go_board.specs.declared.points.Point.{Point}
use Rattle.go_board.specs.declared.points.Stone.{Stone}
use Rattle.go_board.specs.Extent.{Extent}
use Rattle.go_board.specs.Point.{IsOn, AreAdjacent, AreNeighbours}
use Rattle.go_board.specs.Position.{Position, Leads, AreJoined}

AreAdjacent-sym : (a b : ℕ) → AreAdjacent a b → AreAdjacent b a
AreAdjacent-sym a b h = elim h [ inl e ↦ inr e | inr e ↦ inl e ]

pub AreNeighbours-sym : (p q : Point) → AreNeighbours p q → AreNeighbours q p
AreNeighbours-sym p q h = elim h [
  | inl e ↦ inl (AreAdjacent-sym p.column q.column e.0, sym e.1)
  | inr e ↦ inr (sym e.0, AreAdjacent-sym p.row q.row e.1)
]

-- what a path keeps at each step holds at its end
follow : (size : Extent) (position : Position) (stone : Stone) (S : Point → Type 0) →
    ((a b : Point) → S a → AreNeighbours a b → IsOn size b → position b ≡ stone → S b) →
    (path : List Point) (p q : Point) → Leads size position stone p path q → S p → S q
follow size position stone S step [] p q h s = subst S h s
follow size position stone S step (x ∷ path) p q h s = follow size position stone S step path x q h.3 (step p x s h.0 h.1 h.2)

Leads-push : (size : Extent) (position : Position) (stone : Stone) (path : List Point) (p q r : Point) →
    Leads size position stone p path q → AreNeighbours q r → IsOn size r → position r ≡ stone →
    Leads size position stone p (path ++ r ∷ []) r
Leads-push size position stone [] p q r h next on same = (subst (λ x. AreNeighbours x r) (sym h) next, on, same, refl)
Leads-push size position stone (x ∷ path) p q r h next on same =
    (h.0, h.1, h.2, Leads-push size position stone path x q r h.3 next on same)

-- what each step to a point of the same stone keeps holds at each joined point
pub along : (size : Extent) (position : Position) (p : Point) (S : Point → Type 0) →
    ((a b : Point) → S a → AreNeighbours a b → IsOn size b → position b ≡ position p → S b) →
    S p → (q : Point) → AreJoined size position p q → S q
along size position p S step s q j = follow size position (position p) S step j.path p q j.leads s

pub AreJoined-refl : (size : Extent) (position : Position) (p : Point) → AreJoined size position p p
AreJoined-refl size position p = record { path = []; leads = refl }

pub AreJoined-step : (size : Extent) (position : Position) (p q r : Point) → AreJoined size position p q →
    AreNeighbours q r → IsOn size r → position r ≡ position p → AreJoined size position p r
AreJoined-step size position p q r j next on same = record {
  path = j.path ++ r ∷ [];
  leads = Leads-push size position (position p) j.path p q r j.leads next on same;
}

pub joined_on : (size : Extent) (position : Position) (p q : Point) → IsOn size p → AreJoined size position p q → IsOn size q
joined_on size position p q on j = along size position p (IsOn size) (λ a b s next b_on same. b_on) on q j

pub joined_same : (size : Extent) (position : Position) (p q : Point) → AreJoined size position p q → position q ≡ position p
joined_same size position p q j = along size position p (λ x. position x ≡ position p) (λ a b s next on same. same) refl q j

pub AreJoined-trans : (size : Extent) (position : Position) (p q r : Point) → AreJoined size position p q →
    AreJoined size position q r → AreJoined size position p r
AreJoined-trans size position p q r j k =
    along size position q (AreJoined size position p)
    (λ a b s next on same. AreJoined-step size position p a b s next on (same ∙ joined_same size position p q j)) j r k
