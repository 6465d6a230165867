-- The position after a move: the stone placed, and the removed points emptied one after the other.
use Rattle.std.proofs.Common.{◌≡◌, ◌≢◌, ℕ, zero, suc, ◌<◌, List, [], ◌∷◌, ◌++◌, length, slice_index_or, Bool, true, false, cond, eqb, ◌||◌, sym, refl, ap, ◌∙◌, arith, ⊎_elim, ◌⊎◌, inl, inr, Contains}
use Rattle.std.proofs.lemmas.Bool.{cases_Bool, or_cases, or_left, or_right, and_parts, and_from, eqb-true, eq-eqb, false≢true, cond-true, cond-false}
use Rattle.std.proofs.lemmas.List.Elements.{All-contains}
use Rattle.go_board.specs.Extent.{Extent}
use Rattle.go_board.specs.Point.{IsOn, same_point}
use Rattle.go_board.specs.Position.{Position, placed}
use Rattle.go_board.specs.Play.{stone_of, Plays, IsRemoved, ListsOnce, IsCaptured, IsSuicide}
use Rattle.go_board.specs.declared.points.Colour.{Colour}
use Rattle.go_board.specs.declared.points.Point.{Point}
use Rattle.go_board.specs.declared.points.Stone.{Stone}
use Rattle.go_board.specs.declared.points.Stone.TheVariants as stone
use Rattle.shape_core.specs.Inner.KeptLists.{emptied}
use Rattle.shape_core.proofs.Marking.{same_point_from}
use Rattle.shape_core.proofs.Agreeing.{Agree}

pub emptied_none : (position : Position) → emptied position [] ≡ position
unfolding emptied
emptied_none position = refl

pub emptied-push : (position : Position) (points : List Point) (p : Point) → emptied position (points ++ p ∷ []) ≡ placed (emptied position points) p stone.Empty
unfolding emptied
emptied-push position [] p = refl
emptied-push position (q ∷ points) p = emptied-push (placed position q stone.Empty) points p

is_among : Point → List Point → Bool
is_among p [] = false
is_among p (q ∷ points) = same_point p q || is_among p points

empty_twice : (a b : Bool) (s : Stone) → cond b stone.Empty (cond a stone.Empty s) ≡ cond (a || b) stone.Empty s
empty_twice true true s = refl
empty_twice true false s = refl
empty_twice false true s = refl
empty_twice false false s = refl

emptied_at : (position : Position) (points : List Point) (p : Point) → emptied position points p ≡ cond (is_among p points) stone.Empty (position p)
unfolding emptied is_among
emptied_at position [] p = refl
emptied_at position (q ∷ points) p =
    emptied_at (placed position q stone.Empty) points p ∙ empty_twice (same_point p q) (is_among p points) (position p)

among_contains : (p : Point) (points : List Point) → is_among p points ≡ true → Contains points p
unfolding is_among
among_contains p [] h = absurd (false≢true h)
among_contains p (q ∷ points) h =
    ⊎_elim
    (λ (here : same_point p q ≡ true).
    let parts = and_parts (eqb p.column q.column) (eqb p.row q.row) here in
    (0, (omega arith), sym (same_point_from p q (eqb-true p.column q.column parts.0) (eqb-true p.row q.row parts.1))))
    (λ (later : is_among p points ≡ true). let found = among_contains p points later in (suc found.0, (omega (arith, found.1)), found.2))
    (or_cases (same_point p q) (is_among p points) h)

contains_among_at : (p : Point) (points : List Point) (k : ℕ) → k < length points → slice_index_or points k p ≡ p → is_among p points ≡ true
unfolding is_among
contains_among_at p [] k h e = absurd (omega arith)
contains_among_at p (q ∷ points) zero h e =
    or_left (same_point p q) (is_among p points)
    (and_from (eqb p.column q.column) (eqb p.row q.row) (eq-eqb p.column q.column (ap (λ (r : Point). r.column) (sym e))) (eq-eqb p.row q.row (ap (λ (r : Point). r.row) (sym e))))
contains_among_at p (q ∷ points) (suc k) h e =
    or_right (same_point p q) (is_among p points) (contains_among_at p points k (omega arith) e)

empty_or_not : (s : Stone) → (s ≡ stone.Empty) ⊎ (s ≢ stone.Empty)
empty_or_not stone.Empty = inl refl
empty_or_not stone.Black = inr (λ e. cc)
empty_or_not stone.White = inr (λ e. cc)

-- after a move each point is empty or as it was once the stone stood
emptied_or_not : (size : Extent) (before : Position) (mover : Colour) (at : Point) (after : Position) → Plays size before mover at after → (r : Point) → IsOn size r →
    (after r ≡ stone.Empty) ⊎ (after r ≡ placed before at (stone_of mover) r)
emptied_or_not size before mover at after plays r on =
    ⊎_elim
    (λ (gone : IsSuicide size plays.cleared at r × (after r ≡ stone.Empty)). inl gone.1)
    (λ (stays : (IsSuicide size plays.cleared at r → ⊥) × (after r ≡ plays.cleared r)). ⊎_elim
    (λ (gone : IsCaptured size (placed before at (stone_of mover)) mover at r × (plays.cleared r ≡ stone.Empty)). inl (stays.1 ∙ gone.1))
    (λ (same : (IsCaptured size (placed before at (stone_of mover)) mover at r → ⊥) × (plays.cleared r ≡ placed before at (stone_of mover) r)). inr (stays.1 ∙ same.1))
    (plays.captures r on))
    (plays.suicide r on)

-- the stone placed and the listed points emptied is the position after the move
pub removed_is : (size : Extent) (before : Position) (mover : Colour) (at : Point) (after : Position) (removed : List Point) → Plays size before mover at after →
    ListsOnce (IsRemoved size before mover at after) removed → Agree size (emptied (placed before at (stone_of mover)) removed) after
removed_is size before mover at after removed plays lists = λ r on.
    let stood = placed before at (stone_of mover) in
    ⊎_elim
    (λ (among : is_among r removed ≡ true).
    let is = All-contains (IsRemoved size before mover at after) removed r lists.only (among_contains r removed among) in
    emptied_at stood removed r ∙ cond-true (is_among r removed) stone.Empty (stood r) among ∙ sym is.gone)
    (λ (apart : is_among r removed ≡ false).
    let stays : emptied stood removed r ≡ stood r = emptied_at stood removed r ∙ cond-false (is_among r removed) stone.Empty (stood r) apart in
    ⊎_elim
    (λ (gone : after r ≡ stone.Empty). ⊎_elim
    (λ (empty : stood r ≡ stone.Empty). stays ∙ empty ∙ sym gone)
    (λ (full : stood r ≢ stone.Empty).
    let listed = lists.each r (record { on_board = on; stood = full; gone = gone }) in
    absurd (false≢true (sym apart ∙ contains_among_at r removed listed.0 listed.1 listed.2)))
    (empty_or_not (stood r)))
    (λ (same : after r ≡ stood r). stays ∙ sym same)
    (emptied_or_not size before mover at after plays r on))
    (cases_Bool (is_among r removed))
