-- The point of a move is among the empty points, so what is played was there.
use Rattle.std.proofs.Common.{◌≡◌, ℕ, zero, suc, ◌+◌, ◌≤◌, ◌<◌, ◌==◌, ◌⊎◌, inl, inr, Bool, true, false, cond, List, [], ◌∷◌, ◌++◌, Contains, map, filter, refl, ap, sym, subst, ◌∙◌, arith}
use Rattle.std.specs.Prelude.{count_by}
use Rattle.std.specs.List.{flat_map}
use Rattle.std.proofs.Math.Nat.{eq-or-lt_of_le}
use Rattle.std.proofs.lemmas.List.Sums.{sum_by-append}
use Rattle.go_board.specs.Extent.{Extent}
use Rattle.go_board.specs.Point.{IsOn}
use Rattle.go_board.specs.declared.points.Point.{Point}
use Rattle.shape_core.specs.Word.{count_from}
use Rattle.shape_core.specs.declared.words.Kind.{Kind}
use Rattle.std.proofs.lemmas.List.{append-nil}
use Rattle.go_board.specs.Position.{Position}
use Rattle.go_record.specs.Actions.{IsActionOn}
use Rattle.go_record.specs.declared.actions.Action.{Action}
use Rattle.go_record.specs.declared.actions.Action.TheVariants as deed
use Rattle.tally_core.specs.Occasions.{Occasion, is_empty, occasion_of}
use Rattle.tally_core.specs.Counts.{row_of, points_of, patterns_at, patterns_there, patterns_played}
use Rattle.tally_core.specs.Inner.Times.{AreAmong}

pub IsIn : {X : Type 0} → X → List X → Type 0
IsIn x [] = ⊥
IsIn x (y ∷ ys) = (x ≡ y) ⊎ IsIn x ys

in-count_from : (first n k : ℕ) → first ≤ k → k < first + n → IsIn k (count_from first n)
unfolding IsIn
in-count_from first zero k low high = absurd (omega arith)
in-count_from first (suc n) k low high =
    elim (eq-or-lt_of_le low) [ inl same ↦ inl (sym same) | inr above ↦ inr (in-count_from (suc first) n k above (omega arith)) ]

in-map : {X Y : Type 0} (f : X → Y) (x : X) (xs : List X) → IsIn x xs → IsIn (f x) (map f xs)
unfolding IsIn
in-map f x [] h = h
in-map f x (y ∷ ys) (inl same) = inl (ap f same)
in-map f x (y ∷ ys) (inr later) = inr (in-map f x ys later)

in-left : {X : Type 0} (x : X) (xs ys : List X) → IsIn x xs → IsIn x (xs ++ ys)
unfolding IsIn
in-left x [] ys h = absurd h
in-left x (z ∷ xs) ys (inl same) = inl same
in-left x (z ∷ xs) ys (inr later) = inr (in-left x xs ys later)

in-right : {X : Type 0} (x : X) (xs ys : List X) → IsIn x ys → IsIn x (xs ++ ys)
unfolding IsIn
in-right x [] ys h = h
in-right x (z ∷ xs) ys h = inr (in-right x xs ys h)

in-flat_map : {X Y : Type 0} (f : X → List Y) (x : X) (y : Y) (xs : List X) → IsIn x xs → IsIn y (f x) → IsIn y (flat_map f xs)
unfolding IsIn
in-flat_map f x y [] h k = absurd h
in-flat_map f x y (z ∷ xs) (inl same) k = in-left y (f z) (flat_map f xs) (subst (λ w. IsIn y (f w)) same k)
in-flat_map f x y (z ∷ xs) (inr later) k = in-right y (f z) (flat_map f xs) (in-flat_map f x y xs later k)

pub in-filter : {X : Type 0} (p : X → Bool) (x : X) (xs : List X) → p x ≡ true → IsIn x xs → IsIn x (filter p xs)
unfolding IsIn
in-filter p x [] pass h = h
in-filter p x (y ∷ ys) pass (inl same) =
    subst (λ b. IsIn x (cond b (y ∷ filter p ys) (filter p ys))) (sym (ap p (sym same) ∙ pass)) (inl same)
in-filter p x (y ∷ ys) pass (inr later) =
    elim (p y) as (λ b. IsIn x (cond b (y ∷ filter p ys) (filter p ys)))
    [ true ↦ inr (in-filter p x ys pass later) | false ↦ in-filter p x ys pass later ]

pub in-row : (size : Extent) (point : Point) → IsOn size point → IsIn point (row_of size point.row)
unfolding IsIn
in-row size point on = in-map (λ column. record { column = column; row = point.row }) point.column (count_from 0 size.columns) (in-count_from 0 size.columns point.column (omega arith) (omega (arith, on.0)))

pub in-points : (size : Extent) (point : Point) → IsOn size point → IsIn point (points_of size)
unfolding IsIn
in-points size point on =
    in-flat_map (row_of size) point.row point (count_from 0 size.rows) (in-count_from 0 size.rows point.row (omega arith) (omega (arith, on.1)))
    (in-row size point on)

count-among : {X : Type 0} (f : X → List ℕ) (x : X) (xs : List X) (shape : ℕ) → IsIn x xs →
    count_by (λ c. c == shape) (f x) ≤ count_by (λ c. c == shape) (flat_map f xs)
unfolding IsIn
count-among f x [] shape h = absurd h
count-among f x (y ∷ ys) shape (inl same) =
    rw (sum_by-append (λ c. cond (c == shape) 1 0) (f y) (flat_map f ys), same) (omega arith)
count-among f x (y ∷ ys) shape (inr later) =
    let rest = count-among f x ys shape later in
    rw (sum_by-append (λ c. cond (c == shape) 1 0) (f y) (flat_map f ys)) (omega (arith, rest))

-- what is played at an occasion was there
pub occasion_among : (kinds : List Kind) (size : Extent) (occasion : Occasion) → IsOn size occasion.at → is_empty (occasion.position occasion.at) ≡ true →
    AreAmong (patterns_played kinds size occasion) (patterns_there kinds size occasion)
occasion_among kinds size occasion on empty shape =
    count-among (patterns_at kinds size occasion.position occasion.mover) occasion.at
    (filter (λ point. is_empty (occasion.position point)) (points_of size)) shape
    (in-filter (λ point. is_empty (occasion.position point)) occasion.at (points_of size) empty (in-points size occasion.at on))

-- what an action plays was there
pub action_among : (kinds : List Kind) (size : Extent) (before : Position) (action : Action) → IsActionOn size action →
    AreAmong (flat_map (patterns_played kinds size) (occasion_of before action)) (flat_map (patterns_there kinds size) (occasion_of before action))
action_among kinds size before (deed.Set low high stone) on shape = omega arith
action_among kinds size before (deed.Pass mover) on shape = omega arith
action_among kinds size before (deed.Move mover at) on shape =
    elim (is_empty (before at)) as (λ b. is_empty (before at) ≡ b →
    count_by (λ c. c == shape) (flat_map (patterns_played kinds size) (cond b (record { position = before; mover = mover; at = at } ∷ []) []))
    ≤ count_by (λ c. c == shape) (flat_map (patterns_there kinds size) (cond b (record { position = before; mover = mover; at = at } ∷ []) []))) [
      | true ↦ λ empty. rw (append-nil, append-nil) (occasion_among kinds size (record { position = before; mover = mover; at = at }) on empty shape)
      | false ↦ λ full. omega arith
    ] refl

pub contains-in : {X : Type 0} (x : X) (xs : List X) → IsIn x xs → Contains xs x
unfolding IsIn
contains-in x [] h = absurd h
contains-in x (y ∷ ys) (inl same) = (0, omega arith, sym same)
contains-in x (y ∷ ys) (inr later) = let found = contains-in x ys later in (suc found.0, omega (arith, found.1), found.2)
