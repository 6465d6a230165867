-- Points that are not looked at again: their patterns were met before.
use Rattle.std.proofs.Common.{◌≡◌, ℕ, zero, suc, ◌+◌, ◌≤◌, ◌<◌, ◌==◌, ◌||◌, ◌⊎◌, inl, inr, Bool, true, false, cond, List, [], ◌∷◌, ◌++◌, length, map, filter, get_or, slice_index, All, Option, Some, None, refl, ap, sym, subst, ◌∙◌, append_assoc, arith, ⊎_elim}
use Rattle.std.specs.Int.{bit_at}
use Rattle.std.specs.List.{flat_map}
use Rattle.std.proofs.lemmas.Bool.Decides.{nat_tests}
use Rattle.std.proofs.lemmas.List.Elements.{All-nil, All-cons, All-head, All-tail, All-append, All-get_or, All-weaker}
use Rattle.go_board.specs.Extent.{Extent}
use Rattle.go_board.specs.Point.{IsOn, index_of}
use Rattle.go_board.specs.Position.{Position}
use Rattle.go_board.specs.declared.points.Colour.{Colour}
use Rattle.shape_core.specs.declared.words.Kinds.{Kinds}
use Rattle.shape_core.specs.Field.{IsMarked}
use Rattle.shape_core.specs.Word.{count_from}
use Rattle.tally_core.specs.Counts.{row_of, points_of}
use Rattle.tally_core.specs.Walk.{once_each}
use Rattle.tally_core.specs.Inner.Meeting.{Meets}
use Rattle.tally_core.specs.Inner.Standing.{IsStay, AreStays, patterns_of, patterns_staying, patterns_here, patterns_seen, no_stays, is_in_set, IsSide}
use Rattle.tally_core.specs.declared.stays.Stay.{Stay}
use Rattle.tally_core.specs.declared.stays.Stays.{Stays}
use Rattle.tally_core.specs.declared.sides.Side.{Side}
use Rattle.tally_core.proofs.Once.{is_in, in-at, once_same, meets_again, AreIn}
use Rattle.tally_core.proofs.Seeing.{index-inside}

row-on : (size : Extent) (row first n : ℕ) → row < size.rows → first + n ≤ size.columns → All (IsOn size) (map (λ column. record { column = column; row = row }) (count_from first n))
row-on size row first zero low fits = All-nil (IsOn size)
row-on size row first (suc n) low fits =
    All-cons (IsOn size) (record { column = first; row = row }) (map (λ column. record { column = column; row = row }) (count_from (suc first) n))
    (omega arith, low) (row-on size row (suc first) n low (omega arith))

rows-on : (size : Extent) (first n : ℕ) → first + n ≤ size.rows → All (IsOn size) (flat_map (row_of size) (count_from first n))
rows-on size first zero fits = All-nil (IsOn size)
rows-on size first (suc n) fits =
    All-append (IsOn size) (row_of size first) (flat_map (row_of size) (count_from (suc first) n))
    (row-on size first 0 size.columns (omega arith) (omega arith)) (rows-on size (suc first) n (omega arith))

pub points-on : (size : Extent) → All (IsOn size) (points_of size)
points-on size = rows-on size 0 size.rows (omega arith)

-- ---- patterns that were met

is_in-more : (p : ℕ) (xs ys : List ℕ) → is_in p xs ≡ true → is_in p (xs ++ ys) ≡ true
is_in-more p [] ys h = absurd (let no : false ≡ true = h in cc)
is_in-more p (x ∷ xs) ys h =
    elim (p == x) as (λ b. (b || is_in p xs) ≡ true → (b || is_in p (xs ++ ys)) ≡ true)
    [ true ↦ λ _. refl | false ↦ λ later. is_in-more p xs ys later ] h

in-more : (shapes ps more : List ℕ) → AreIn shapes ps → AreIn (shapes ++ more) ps
in-more shapes [] rest h = AreIn.none
in-more shapes (p ∷ ps) rest (AreIn.more _ _ inside others) = AreIn.more p ps (is_in-more p shapes rest inside) (in-more shapes ps rest others)

in-append : (shapes ps qs : List ℕ) → AreIn shapes ps → AreIn shapes qs → AreIn shapes (ps ++ qs)
in-append shapes [] qs h k = k
in-append shapes (p ∷ ps) qs (AreIn.more _ _ inside others) k = AreIn.more p (ps ++ qs) inside (in-append shapes ps qs others k)

stay-in : (shapes : List ℕ) (occasions : ℕ) (stay : Option Stay) → IsStay (length shapes) occasions stay → AreIn shapes (patterns_of shapes stay)
stay-in shapes occasions None h = AreIn.none
stay-in shapes occasions (Some stay) h = AreIn.more (get_or shapes stay.meeting 0) [] (in-at shapes stay.meeting h.0) AreIn.none

staying-in : (shapes : List ℕ) (occasions : ℕ) (stays : Stays) → AreStays (length shapes) occasions stays → AreIn shapes (patterns_staying shapes stays)
staying-in shapes occasions stays h =
    in-append shapes (patterns_of shapes stays.square) (patterns_of shapes stays.diamond)
    (stay-in shapes occasions stays.square h.square) (stay-in shapes occasions stays.diamond h.diamond)

is-set : (n : ℕ) → n ≡ 1 → (n == 1) ≡ true
is-set n h = Prim.grind (arith, nat_tests)

-- each point is in the set, or its patterns were met
pub marked-or-met : (kinds : Kinds) (size : Extent) (position : Position) (mover : Colour) (shapes : List ℕ) (side : Side) → IsSide kinds size position mover shapes side →
    All (λ q. (is_in_set side.changed.items q ≡ true) ⊎ AreIn shapes (patterns_here kinds size position mover q)) (points_of size)
marked-or-met kinds size position mover shapes side is =
    All-weaker (IsOn size) (λ q. (is_in_set side.changed.items q ≡ true) ⊎ AreIn shapes (patterns_here kinds size position mover q))
    (λ q on. ⊎_elim
    (λ (marked : IsMarked side.changed.items q). inl (is-set (bit_at (slice_index side.changed.items q.row) q.column) marked))
    (λ (stay : patterns_staying shapes (get_or side.points.items (index_of size q) no_stays) ≡ patterns_here kinds size position mover q).
    let inside : index_of size q < length side.points.items = omega (arith, index-inside size q on, is.standing.room) in
    inr (subst (AreIn shapes) stay
    (staying-in shapes side.occasions (get_or side.points.items (index_of size q) no_stays)
    (All-get_or (AreStays (length shapes) side.occasions) side.points.items (index_of size q) no_stays inside is.standing.stays))))
    (is.pending q on))
    (points_of size) (points-on size)

skip : {X : Type 0} (m : X → Bool) (f : X → List ℕ) (a : List ℕ) (xs : List X) → All (λ x. (m x ≡ true) ⊎ AreIn a (f x)) xs →
    once_each (a ++ flat_map f (filter m xs)) ≡ once_each (a ++ flat_map f xs)
skip m f a [] h = refl
skip {X} m f a (x ∷ xs) h =
    let P = λ (y : X). (m y ≡ true) ⊎ AreIn a (f y) in
    let rest = All-tail P x xs h in
    let taken : m x ≡ true → once_each (a ++ flat_map f (filter m (x ∷ xs))) ≡ once_each (a ++ (f x ++ flat_map f xs)) =
    λ marked.
    ap (λ b. once_each (a ++ flat_map f (cond b (x ∷ filter m xs) (filter m xs)))) marked
    ∙ ap once_each (sym (append_assoc a (f x) (flat_map f (filter m xs))))
    ∙ skip m f (a ++ f x) xs (All-weaker P (λ y. (m y ≡ true) ⊎ AreIn (a ++ f x) (f y))
    (λ y here. ⊎_elim (λ (is : m y ≡ true). inl is) (λ (met : AreIn a (f y)). inr (in-more a (f y) (f x) met)) here) xs rest)
    ∙ ap once_each (append_assoc a (f x) (flat_map f xs)) in
    elim (m x) as (λ b. m x ≡ b → once_each (a ++ flat_map f (filter m (x ∷ xs))) ≡ once_each (a ++ (f x ++ flat_map f xs))) [
      | true ↦ taken
      | false ↦ λ unmarked.
          ⊎_elim
          (λ (marked : m x ≡ true). taken marked)
          (λ (met : AreIn a (f x)).
          ap (λ b. once_each (a ++ flat_map f (cond b (x ∷ filter m xs) (filter m xs)))) unmarked
          ∙ skip m f a xs rest
          ∙ once_same a (a ++ f x) (flat_map f xs) (meets_again a (f x) met).order
          ∙ ap once_each (append_assoc a (f x) (flat_map f xs)))
          (All-head P x xs h)
    ] refl

-- what was met of the points of the set was met of all
pub meets-all : (kinds : Kinds) (size : Extent) (position : Position) (mover : Colour) (shapes new : List ℕ) (side : Side) → IsSide kinds size position mover shapes side →
    Meets shapes (flat_map (patterns_here kinds size position mover) (filter (is_in_set side.changed.items) (points_of size))) new →
    Meets shapes (patterns_seen kinds size position mover) new
meets-all kinds size position mover shapes new side is meets = record {
  extends = meets.extends;
  order = meets.order ∙ skip (is_in_set side.changed.items) (patterns_here kinds size position mover) shapes (points_of size) (marked-or-met kinds size position mover shapes side is);
}
