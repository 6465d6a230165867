-- Only the points of the board matter: positions that agree there have the same groups, captures and results.
use Rattle.std.proofs.Common.{◌≡◌, ◌≢◌, ◌∙◌, ◌⊎◌, ◌<◌, ◌*◌, List, length, set, get_or, replicate, subst, sym, ap, inl, inr, refl}
use Rattle.std.proofs.lemmas.Bool.Decides.{eqb_tells}
use Rattle.std.proofs.lemmas.List.{get_or-set_same, get_or-set_other, get_or-replicate}
use Rattle.go_board.specs.declared.points.Point.{Point}
use Rattle.go_board.specs.declared.points.Colour.{Colour}
use Rattle.go_board.specs.declared.points.Stone.{Stone}
use Rattle.go_board.specs.declared.points.Stone.TheVariants as stone
use Rattle.go_board.specs.Extent.{Extent}
use Rattle.go_board.specs.Point.{IsOn, index_of}
use Rattle.go_board.specs.Position.{Position, AreSame, placed, position_in, AreJoined, IsAlive}
use Rattle.go_board.specs.Play.{Removes, IsCaptured, IsSuicide, Plays, stone_of}
use Rattle.go_board.proofs.Places.{same_index, index_below, shown_on}
use Rattle.go_board.proofs.Paths.{along, AreJoined-refl, AreJoined-step}
use Rattle.go_board.proofs.Captures.{Removes-same}

pub AreSame-sym : (size : Extent) (a b : Position) → AreSame size a b → AreSame size b a
AreSame-sym size a b h = λ q on. sym (h q on)

-- a stone placed at a point
pub placed_cases : (position : Position) (p : Point) (kind : Stone) (q : Point) →
    ((q ≡ p) × (placed position p kind q ≡ kind)) ⊎ ((q ≢ p) × (placed position p kind q ≡ position q))
placed_cases position p kind q = elim (eqb_tells q.column p.column) [
  | inl c ↦ elim (eqb_tells q.row p.row) [
    | inl r ↦ inl (
      ap (λ x. record { column = x; row = q.row }) c.1 ∙ ap (λ y. record { column = p.column; row = y }) r.1,
      rw (c.0, r.0) refl,
    )
    | inr r ↦ inr ((λ e. r.1 (ap (λ (x : Point). x.row) e)), rw (c.0, r.0) refl)
  ]
  | inr c ↦ inr ((λ e. c.1 (ap (λ (x : Point). x.column) e)), rw c.0 refl)
]

-- a write to the list of stones places a stone
pub write_places : (size : Extent) (stones : List Stone) (p : Point) (kind : Stone) → IsOn size p →
    length stones ≡ size.columns * size.rows →
    AreSame size (position_in size (set stones (index_of size p) kind)) (placed (position_in size stones) p kind)
write_places size stones p kind on board q q_on = shown_on size (set stones (index_of size p) kind) q q_on ∙ elim (placed_cases (position_in size stones) p kind q) [
  | inl h ↦ ap (λ (x : Point). get_or (set stones (index_of size p) kind) (index_of size x) stone.Empty) h.0
      ∙ get_or-set_same stones (index_of size p) kind stone.Empty (subst (λ n. index_of size p < n) (sym board) (index_below size p on))
      ∙ sym h.1
  | inr h ↦ get_or-set_other stones (index_of size p) (index_of size q) kind stone.Empty (λ e. h.0 (same_index size q p q_on on e))
      ∙ sym (shown_on size stones q q_on) ∙ sym h.1
]

module _ (size : Extent) (a b : Position) (agree : AreSame size a b) where
  pub joined_agree : (p q : Point) → IsOn size p → AreJoined size a p q → AreJoined size b p q
  joined_agree p q on j = along size a p (AreJoined size b p)
      (λ x y s next y_on same. AreJoined-step size b p x y s next y_on (sym (agree y y_on) ∙ same ∙ agree p on))
      (AreJoined-refl size b p) q j

  pub alive_agree : (p : Point) → IsOn size p → IsAlive size a p → IsAlive size b p
  alive_agree p on h = record {
    member = h.member;
    liberty = h.liberty;
    joined = joined_agree p h.member on h.joined;
    neighbours = h.neighbours;
    on_board = h.on_board;
    empty = sym (agree h.liberty h.on_board) ∙ h.empty;
  }

module _ (size : Extent) (a b : Position) (agree : AreSame size a b) where
  captured_agree : (mover : Colour) (at q : Point) → IsCaptured size a mover at q → IsCaptured size b mover at q
  captured_agree mover at q c = record {
    neighbour = c.neighbour;
    on_board = c.on_board;
    next_to = c.next_to;
    of_other = sym (agree c.neighbour c.on_board) ∙ c.of_other;
    joined = joined_agree size a b agree c.neighbour q c.on_board c.joined;
    dead = λ alive. c.dead (alive_agree size b a (AreSame-sym size a b agree) c.neighbour c.on_board alive);
  }

  suicide_agree : (at q : Point) → IsOn size at → IsSuicide size a at q → IsSuicide size b at q
  suicide_agree at q on s = (joined_agree size a b agree at q on s.0, (λ alive. s.1 (alive_agree size b a (AreSame-sym size a b agree) at on alive)))

-- what is removed of positions that agree
pub Removes-agree : (size : Extent) (A : Point → Type 0) (before before' after after' : Position) → AreSame size before before' → AreSame size after after' →
    Removes size A before after → Removes size A before' after'
Removes-agree size A before before' after after' same_before same_after r = λ q on. elim (r q on) [
  | inl h ↦ inl (h.0, sym (same_after q on) ∙ h.1)
  | inr h ↦ inr (h.0, sym (same_after q on) ∙ h.1 ∙ same_before q on)
]

pub Removes-captured : (size : Extent) (a b after : Position) (mover : Colour) (at : Point) → AreSame size a b →
    Removes size (IsCaptured size a mover at) a after → Removes size (IsCaptured size b mover at) b after
Removes-captured size a b after mover at agree r =
    Removes-same size (IsCaptured size a mover at) (IsCaptured size b mover at) b after
    (λ q on. captured_agree size a b agree mover at q)
    (λ q on. captured_agree size b a (AreSame-sym size a b agree) mover at q)
    (Removes-agree size (IsCaptured size a mover at) a b after after agree (λ q on. refl) r)

Removes-suicide : (size : Extent) (a b after : Position) (at : Point) → IsOn size at → AreSame size a b →
    Removes size (IsSuicide size a at) a after → Removes size (IsSuicide size b at) b after
Removes-suicide size a b after at on agree r =
    Removes-same size (IsSuicide size a at) (IsSuicide size b at) b after
    (λ q q_on. suicide_agree size a b agree at q on)
    (λ q q_on. suicide_agree size b a (AreSame-sym size a b agree) at q on)
    (Removes-agree size (IsSuicide size a at) a b after after agree (λ q on. refl) r)

-- one thing is left
Removes-one : (size : Extent) (A : Point → Type 0) (before first second : Position) → Removes size A before first → Removes size A before second →
    AreSame size first second
Removes-one size A before first second r s q on = elim (r q on) [
  | inl h ↦ elim (s q on) [
    | inl k ↦ h.1 ∙ sym k.1
    | inr k ↦ absurd (k.0 h.0)
  ]
  | inr h ↦ elim (s q on) [
    | inl k ↦ absurd (h.0 k.0)
    | inr k ↦ h.1 ∙ sym k.1
  ]
]

-- a stone placed on positions that agree
placed_same : (size : Extent) (a b : Position) (p : Point) (kind : Stone) → AreSame size a b → AreSame size (placed a p kind) (placed b p kind)
placed_same size a b p kind same q on = elim (placed_cases a p kind q) [
  | inl h ↦ elim (placed_cases b p kind q) [
    | inl k ↦ h.1 ∙ sym k.1
    | inr k ↦ absurd (k.0 h.0)
  ]
  | inr h ↦ elim (placed_cases b p kind q) [
    | inl k ↦ absurd (h.0 k.0)
    | inr k ↦ h.1 ∙ same q on ∙ sym k.1
  ]
]

pub Plays-one : (size : Extent) (before again : Position) (mover : Colour) (at : Point) (first second : Position) → IsOn size at → AreSame size before again →
    Plays size before mover at first → Plays size again mover at second → AreSame size first second
Plays-one size before again mover at first second on same p s =
    let start = placed before at (stone_of mover) in
    let restart = placed again at (stone_of mover) in
    let starts = placed_same size before again at (stone_of mover) same in
    let cleared = Removes-one size (IsCaptured size restart mover at) restart p.cleared s.cleared (Removes-captured size start restart p.cleared mover at starts p.captures) s.captures in
    Removes-one size (IsSuicide size s.cleared at) s.cleared first second
    (Removes-suicide size p.cleared s.cleared first at on cleared p.suicide) s.suicide

-- an empty board
pub empty_at : (size : Extent) (stones : List Stone) (q : Point) → IsOn size q → stones ≡ replicate (size.columns * size.rows) stone.Empty →
    position_in size stones q ≡ stone.Empty
empty_at size stones q on e =
    shown_on size stones q on
    ∙ ap (λ (l : List Stone). get_or l (index_of size q) stone.Empty) e
    ∙ get_or-replicate (size.columns * size.rows) (index_of size q) stone.Empty stone.Empty (index_below size q on)
