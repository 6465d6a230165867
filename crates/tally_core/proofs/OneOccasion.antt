-- An occasion of one colour, counted beside what stays for the other.
use Rattle.std.proofs.Common.{◌≡◌, ℕ, ◌+◌, inl, inr, Bool, cond, List, [], ◌∷◌, ◌++◌, length, filter, refl, ap, sym, subst, ◌∙◌, ⊎_elim, arith}
use Rattle.std.specs.List.{flat_map}
use Rattle.std.proofs.lemmas.List.{append-nil}
use Rattle.std.proofs.lemmas.List.Elements.{All-weaker}
use Rattle.go_board.specs.Extent.{Extent}
use Rattle.go_board.specs.Position.{Position}
use Rattle.go_board.specs.declared.points.Point.{Point}
use Rattle.go_board.specs.declared.points.Colour.{Colour}
use Rattle.go_board.specs.declared.points.Colour.TheVariants as colour
use Rattle.go_board.specs.declared.points.Stone.{Stone}
use Rattle.go_board.specs.declared.points.Stone.TheVariants as stone
use Rattle.go_record.specs.declared.actions.Action.{Action}
use Rattle.go_record.specs.declared.actions.Action.TheVariants as deed
use Rattle.shape_core.specs.declared.words.Kinds.{Kinds}
use Rattle.shape_core.specs.Field.{Kept, IsMarked}
use Rattle.go_board.specs.Board.{position_of}
use Rattle.tally_core.specs.Occasions.{Occasion, is_empty, occasion_of}
use Rattle.tally_core.specs.Counts.{kinds_of, points_of, patterns_at, patterns_there, patterns_played}
use Rattle.tally_core.specs.Inner.Times.{times_in}
use Rattle.tally_core.specs.Walk.{shapes_of}
use Rattle.tally_core.specs.Inner.Meeting.{Extends, Meets}
use Rattle.tally_core.specs.Inner.Standing.{AreStays, StayThere, waiting, patterns_seen, IsSide, IsSeen, CountsOccasions}
use Rattle.tally_core.specs.Inner.Sight.{seen_on, played_on, IsSideOn, AddsThere, AddsPlayed}
use Rattle.tally_core.specs.declared.meetings.Meeting.{Meeting}
use Rattle.tally_core.specs.declared.sides.Side.{Side}
use Rattle.tally_core.specs.declared.game_walks.GameWalk.{GameWalk}
use Rattle.tally_core.proofs.Rows.{kept-cons}
use Rattle.tally_core.proofs.Lasting.{waiting-extended, stays-extended, length-extended}
use Rattle.tally_core.proofs.Once.{meets_none}
use Rattle.tally_core.proofs.Seeing.{there-extended}

-- a side is one still, however many shapes more are met
pub side-extended : (kinds : Kinds) (size : Extent) (position : Position) (mover : Colour) (shapes new : List ℕ) (side : Side) → Extends shapes new →
    IsSide kinds size position mover shapes side → IsSide kinds size position mover new side
side-extended kinds size position mover shapes new side extends is = record {
  standing = record {
    room = is.standing.room;
    marks = is.standing.marks;
    standing = is.standing.standing;
    nothing = is.standing.nothing;
    stays =
        All-weaker (AreStays (length shapes) side.occasions) (AreStays (length new) side.occasions)
        (λ s. stays-extended (length shapes) (length new) side.occasions s (length-extended shapes new extends)) side.points.items is.standing.stays;
  };
  pending = λ q on. ⊎_elim
      (λ (marked : IsMarked side.changed.items q). inl marked)
      (λ (stay : StayThere kinds size position mover shapes side.points.items q).
      inr (there-extended kinds size position mover shapes new side.occasions side.points.items q extends is.standing.stays is.standing.room on stay))
      (is.pending q on);
}

pub side-seen : (kinds : Kinds) (size : Extent) (position : Position) (mover : Colour) (shapes : List ℕ) (side : Side) →
    IsSeen kinds size position mover shapes side → IsSide kinds size position mover shapes side
side-seen kinds size position mover shapes side seen = record { standing = seen.standing; pending = λ q on. inr (seen.pending q on) }

-- ---- the occasion of a move

one-by-one : {X : Type 0} (f : X → List ℕ) (p : X → Bool) (xs : List X) → flat_map (λ x. flat_map f (filter p (x ∷ []))) xs ≡ flat_map f (filter p xs)
one-by-one f p [] = refl
one-by-one f p (x ∷ xs) = ap (λ ys. flat_map f (filter p (x ∷ [])) ++ ys) (one-by-one f p xs) ∙ sym (kept-cons f p x xs)

there-done : (kinds : Kinds) (size : Extent) (position : Position) (mover : Colour) (at : Point) →
    patterns_seen kinds size position mover ≡ flat_map (patterns_there (kinds_of kinds) size) (record { position = position; mover = mover; at = at } ∷ [])
there-done kinds size position mover at =
    let f = patterns_at (kinds_of kinds) size position mover in
    let p = λ (q : Point). is_empty (position q) in
    one-by-one f p (points_of size) ∙ sym (append-nil (flat_map f (filter p (points_of size))))

played-done : (kinds : Kinds) (size : Extent) (position : Position) (mover : Colour) (at : Point) →
    patterns_at (kinds_of kinds) size position mover at ≡ flat_map (patterns_played (kinds_of kinds) size) (record { position = position; mover = mover; at = at } ∷ [])
played-done kinds size position mover at = sym (append-nil (patterns_at (kinds_of kinds) size position mover at))

-- a move onto an empty point is an occasion
pub occasion-done : (position : Position) (action : Action) (mover : Colour) (at : Point) → action ≡ deed.Move mover at → position at ≡ stone.Empty →
    occasion_of position action ≡ record { position = position; mover = mover; at = at } ∷ []
occasion-done position action mover at is empty =
    let o : Occasion = record { position = position; mover = mover; at = at } in
    ap (occasion_of position) is ∙ ap (λ (s : Stone). cond (is_empty s) (o ∷ []) []) empty

-- what an occasion says of one side
pub record IsOccasion (field : Kept) (mover : Colour) (at : Point) (met new : List Meeting) (side after : Side) : Type 0 where
  pub occasions : after.occasions ≡ side.occasions + 1
  pub there : AddsThere (seen_on field mover) met side new after
  pub played : AddsPlayed (played_on field mover at) met new
  pub meets : Meets (shapes_of met) (seen_on field mover) (shapes_of new)

pub black-counted : (before after : GameWalk) (at : Point) (done : List Occasion) →
    done ≡ record { position = position_of before.field.board; mover = colour.Black; at = at } ∷ [] → IsSideOn before.field colour.White before.meetings before.white → after.white ≡ before.white →
    IsOccasion before.field colour.Black at before.meetings after.meetings before.black after.black → CountsOccasions done before after 1
black-counted before after at done is side same counted =
    let kinds = before.field.kinds in
    let size = before.field.board.size in
    let position = position_of before.field.board in
    let white = before.white in
    let o : Occasion = record { position = position; mover = colour.Black; at = at } in
    let all : CountsOccasions (o ∷ []) before after 1 = record {
      moves_counted = refl;
      few = omega arith;
      black = omega (arith, counted.occasions);
      white = omega (arith, ap (λ (s : Side). s.occasions) same);
      there = λ shape.
          omega (
            arith,
            counted.there shape,
            ap (λ ps. times_in ps shape) (there-done kinds size position colour.Black at),
            ap (λ (s : Side). waiting (shapes_of after.meetings) s.occasions s.points.items shape) same,
            waiting-extended (shapes_of before.meetings) (shapes_of after.meetings) white.occasions white.points.items shape counted.meets.extends side.standing.stays,
          );
      played = λ shape. omega (arith, counted.played shape, ap (λ ps. times_in ps shape) (played-done kinds size position colour.Black at));
      meets = subst (λ ps. Meets (shapes_of before.meetings) ps (shapes_of after.meetings)) (there-done kinds size position colour.Black at) counted.meets;
    } in
    subst (λ d. CountsOccasions d before after 1) (sym is) all

pub white-counted : (before after : GameWalk) (at : Point) (done : List Occasion) →
    done ≡ record { position = position_of before.field.board; mover = colour.White; at = at } ∷ [] → IsSideOn before.field colour.Black before.meetings before.black → after.black ≡ before.black →
    IsOccasion before.field colour.White at before.meetings after.meetings before.white after.white → CountsOccasions done before after 1
white-counted before after at done is side same counted =
    let kinds = before.field.kinds in
    let size = before.field.board.size in
    let position = position_of before.field.board in
    let black = before.black in
    let o : Occasion = record { position = position; mover = colour.White; at = at } in
    let all : CountsOccasions (o ∷ []) before after 1 = record {
      moves_counted = refl;
      few = omega arith;
      white = omega (arith, counted.occasions);
      black = omega (arith, ap (λ (s : Side). s.occasions) same);
      there = λ shape.
          omega (
            arith,
            counted.there shape,
            ap (λ ps. times_in ps shape) (there-done kinds size position colour.White at),
            ap (λ (s : Side). waiting (shapes_of after.meetings) s.occasions s.points.items shape) same,
            waiting-extended (shapes_of before.meetings) (shapes_of after.meetings) black.occasions black.points.items shape counted.meets.extends side.standing.stays,
          );
      played = λ shape. omega (arith, counted.played shape, ap (λ ps. times_in ps shape) (played-done kinds size position colour.White at));
      meets = subst (λ ps. Meets (shapes_of before.meetings) ps (shapes_of after.meetings)) (there-done kinds size position colour.White at) counted.meets;
    } in
    subst (λ d. CountsOccasions d before after 1) (sym is) all

-- ---- what is no occasion

pub occasion-none : (position : Position) (action : Action) (mover : Colour) (at : Point) → action ≡ deed.Move mover at → (position at ≡ stone.Empty → ⊥) →
    occasion_of position action ≡ []
occasion-none position action mover at is full =
    let o : Occasion = record { position = position; mover = mover; at = at } in
    ap (occasion_of position) is
    ∙ elim (position at) as (λ (s : Stone). position at ≡ s → cond (is_empty s) (o ∷ []) [] ≡ []) [
      | stone.Empty ↦ λ empty. absurd (full empty)
      | stone.Black ↦ λ black. refl
      | stone.White ↦ λ white. refl
    ] refl

-- nothing is counted where there is no occasion
pub nothing-counted : (walk : GameWalk) → CountsOccasions [] walk walk 0
nothing-counted walk = record {
  moves_counted = refl;
  few = omega arith;
  black = omega arith;
  white = omega arith;
  there = λ shape. omega arith;
  played = λ shape. omega arith;
  meets = meets_none (shapes_of walk.meetings);
}
