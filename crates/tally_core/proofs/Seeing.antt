-- What is seen of points, one after another.
use Rattle.std.proofs.Common.{◌≡◌, ℕ, ◌+◌, ◌*◌, ◌<◌, cond, List, [], ◌∷◌, ◌++◌, length, set, get_or, slice_index, slice_index_or, Vec, Global, All, Contains, inl, inr, refl, ap, ap₂, sym, subst, ◌∙◌, ⊎_elim, arith, length-set, get_or-set_same, get_or-set_other, append_assoc}
use Rattle.std.specs.List.{flat_map}
use Rattle.std.proofs.lemmas.Bool.{cases_eq}
use Rattle.std.proofs.lemmas.List.{append-nil}
use Rattle.std.proofs.lemmas.List.Concat.{flat_map-append}
use Rattle.std.proofs.lemmas.List.Sums.{sum_by-set}
use Rattle.std.proofs.lemmas.List.Elements.{Contains-push_cases, Contains-append_cases, All-set, All-get_or, All-weaker}
use Rattle.std.proofs.lemmas.Nat.{same_from_place, mul-add-lt}
use Rattle.go_board.specs.Extent.{Extent}
use Rattle.go_board.specs.Point.{IsOn, index_of}
use Rattle.go_board.specs.Position.{Position}
use Rattle.go_board.specs.declared.points.Point.{Point}
use Rattle.go_board.specs.declared.points.Colour.{Colour}
use Rattle.go_board.specs.declared.points.Stone.{Stone}
use Rattle.go_board.specs.declared.points.Stone.TheVariants as stone
use Rattle.shape_core.specs.declared.words.Kinds.{Kinds}
use Rattle.tally_core.specs.Occasions.{is_empty}
use Rattle.tally_core.specs.Counts.{kinds_of, patterns_at}
use Rattle.tally_core.specs.Walk.{there_among, shapes_of}
use Rattle.tally_core.specs.Inner.Meeting.{Extends}
use Rattle.tally_core.specs.Inner.Standing.{AreStays, patterns_staying, waits_at, waiting, patterns_here, no_stays, StayThere}
use Rattle.tally_core.specs.declared.meetings.Meeting.{Meeting}
use Rattle.tally_core.specs.declared.stays.Stays.{Stays}
use Rattle.shape_core.specs.Field.{Kept}
use Rattle.std.specs.Int.{bit_at}
use Rattle.go_board.specs.Board.{position_of}
use Rattle.tally_core.specs.Inner.Meeting.{Meets}
use Rattle.tally_core.specs.Inner.Standing.{AreStanding}
use Rattle.tally_core.specs.Inner.Sight.{here_on, StayOn, StaysAt, PlayedStays, HasLooked}
use Rattle.tally_core.specs.declared.sides.Side.{Side}
use Rattle.tally_core.proofs.Once.{meets_on, meets_none}
use Rattle.tally_core.proofs.Lasting.{staying-extended, waits_at-extended, stays-extended, length-extended, waiting-extended}

-- the patterns of an empty point
pub here-empty : (kinds : Kinds) (size : Extent) (position : Position) (mover : Colour) (point : Point) → position point ≡ stone.Empty →
    patterns_here kinds size position mover point ≡ patterns_at (kinds_of kinds) size position mover point
here-empty kinds size position mover point empty =
    let f = patterns_at (kinds_of kinds) size position mover in
    ap (λ (s : Stone). flat_map f (cond (is_empty s) (point ∷ []) [])) empty
    ∙ append-nil (f point)

-- a place of a point is one of the board's
pub index-inside : (size : Extent) (q : Point) → IsOn size q → index_of size q < size.columns * size.rows
index-inside size q on = omega (arith, mul-add-lt q.row size.columns q.column size.rows on.1 on.0)

-- points of one place are one
same-point : (size : Extent) (p q : Point) → IsOn size p → IsOn size q → index_of size p ≡ index_of size q → p ≡ q
same-point size p q on_p on_q e =
    let parts = same_from_place p.row p.column q.row q.column size.columns on_p.0 on_q.0 e in
    let at : ℕ → ℕ → Point = λ c r. record { column = c; row = r } in
    ap₂ at parts.1 parts.0

-- one of the points was looked at again, and no shape was there more often
pub there-step : (meetings new : List Meeting) (occasions : ℕ) (points : List Stays) (i : ℕ) (stays default : Stays) (shape : ℕ) →
    i < length points → Extends (shapes_of meetings) (shapes_of new) → All (AreStays (length (shapes_of meetings)) occasions) points →
    there_among new shape + waits_at (shapes_of new) occasions stays shape
    ≡ there_among meetings shape + waits_at (shapes_of meetings) occasions (get_or points i default) shape →
    there_among new shape + waiting (shapes_of new) occasions (set points i stays) shape
    ≡ there_among meetings shape + waiting (shapes_of meetings) occasions points shape
there-step meetings new occasions points i stays default shape inside extends all same =
    let f = λ (s : Stays). waits_at (shapes_of new) occasions s shape in
    omega (
      arith,
      same,
      sum_by-set f points i stays default inside,
      waiting-extended (shapes_of meetings) (shapes_of new) occasions points shape extends all,
      waits_at-extended (shapes_of meetings) (shapes_of new) occasions (get_or points i default) shape extends
          (All-get_or (AreStays (length (shapes_of meetings)) occasions) points i default inside all),
    )

pub stays-step : (shapes new : List ℕ) (occasions : ℕ) (points : List Stays) (i : ℕ) (stays : Stays) →
    Extends shapes new → AreStays (length new) occasions stays → All (AreStays (length shapes) occasions) points → All (AreStays (length new) occasions) (set points i stays)
stays-step shapes new occasions points i stays extends here all =
    All-set (AreStays (length new) occasions) points i stays here
    (All-weaker (AreStays (length shapes) occasions) (AreStays (length new) occasions) (λ s. stays-extended (length shapes) (length new) occasions s (length-extended shapes new extends)) points all)

-- what stays at a point stays there, however many shapes more are met
pub there-extended : (kinds : Kinds) (size : Extent) (position : Position) (mover : Colour) (shapes new : List ℕ) (occasions : ℕ) (points : List Stays) (q : Point) →
    Extends shapes new → All (AreStays (length shapes) occasions) points → length points ≡ size.columns * size.rows → IsOn size q →
    StayThere kinds size position mover shapes points q → StayThere kinds size position mover new points q
there-extended kinds size position mover shapes new occasions points q extends all room on stay =
    let inside : index_of size q < length points = omega (arith, index-inside size q on, room) in
    staying-extended shapes new occasions (get_or points (index_of size q) no_stays) extends (All-get_or (AreStays (length shapes) occasions) points (index_of size q) no_stays inside all)
    ∙ stay

-- what stays at the point that was looked at, and at another
pub pending-step : (kinds : Kinds) (size : Extent) (position : Position) (mover : Colour) (shapes new : List ℕ) (occasions : ℕ) (points : List Stays) (i : ℕ) (stays : Stays) (point q : Point) →
    Extends shapes new → All (AreStays (length shapes) occasions) points → length points ≡ size.columns * size.rows → i ≡ index_of size point → IsOn size point → IsOn size q →
    patterns_staying new stays ≡ patterns_here kinds size position mover point →
    ((q ≡ point → ⊥) → StayThere kinds size position mover shapes points q) →
    StayThere kinds size position mover new (set points i stays) q
pending-step kinds size position mover shapes new occasions points i stays point q extends all room at on_point on_q here others =
    let inside : i < length points = omega (arith, index-inside size point on_point, room, at) in
    ⊎_elim
    (λ (same : index_of size q ≡ i).
    ap (λ k. patterns_staying new (get_or (set points i stays) k no_stays)) same
    ∙ ap (patterns_staying new) (get_or-set_same points i stays no_stays inside)
    ∙ here
    ∙ ap (patterns_here kinds size position mover) (sym (same-point size q point on_q on_point (same ∙ at))))
    (λ (other : index_of size q ≡ i → ⊥).
    ap (patterns_staying new) (get_or-set_other points i (index_of size q) stays no_stays other)
    ∙ there-extended kinds size position mover shapes new occasions points q extends all room on_q (others (λ same. other (ap (index_of size) same ∙ sym at))))
    (cases_eq (index_of size q) i)

-- ---- points that were looked at

contains-none : (q : Point) → Contains [] q → ⊥
contains-none q among = absurd (omega (arith, among.1))

contains-one : (point q : Point) → Contains (point ∷ []) q → q ≡ point
contains-one point q among = ⊎_elim (λ (none : Contains [] q). absurd (contains-none q none)) (λ (same : point ≡ q). sym same) (Contains-push_cases [] point q among)

module _ (field : Kept) (mover : Colour) where
  abbrev pub here : Point → List ℕ
  here = here_on field mover

  -- none yet, whatever else became of the side
  pub looked-none : (points : List Point) (meetings : List Meeting) (side new : Side) → AreStanding field.board.size (length (shapes_of meetings)) new →
      new.occasions ≡ side.occasions → new.points.items ≡ side.points.items → HasLooked field mover points points meetings side meetings new
  looked-none points meetings side new standing occasions same = record {
    seen = [];
    all = refl;
    standing = standing;
    occasions = occasions;
    there = λ shape. ap₂ (λ n stays. there_among meetings shape + waiting (shapes_of meetings) n stays shape) occasions same;
    played = λ shape. refl;
    meets = meets_none (shapes_of meetings);
    looks = λ q on known. ⊎_elim
        (λ (among : Contains [] q). absurd (contains-none q among))
        (λ (stay : StayOn field mover meetings side q). ap (λ stays. patterns_staying (shapes_of meetings) (slice_index_or stays (index_of field.board.size q) no_stays)) same ∙ stay)
        known;
  }

  -- these, and then others
  pub looked-more : (points more left : List Point) (a b c : List Meeting) (s t u : Side) → HasLooked field mover points (more ++ left) a s b t →
      HasLooked field mover more [] b t c u → HasLooked field mover points left a s c u
  looked-more points more left a b c s t u first then = record {
    seen = first.seen ++ then.seen;
    all = append_assoc first.seen then.seen left
        ∙ ap (λ ps. first.seen ++ (ps ++ left)) (sym (append-nil then.seen) ∙ then.all)
        ∙ first.all;
    standing = then.standing;
    occasions = then.occasions ∙ first.occasions;
    there = λ shape. then.there shape ∙ first.there shape;
    played = λ shape. then.played shape ∙ first.played shape;
    meets = subst (λ patterns. Meets (shapes_of a) patterns (shapes_of c)) (sym (flat_map-append here first.seen then.seen))
        (meets_on (shapes_of a) (flat_map here first.seen) (shapes_of b) (flat_map here then.seen) (shapes_of c) first.meets then.meets);
    looks = λ q on known. ⊎_elim
        (λ (among : Contains (first.seen ++ then.seen) q). ⊎_elim
        (λ (earlier : Contains first.seen q). then.looks q on (inr (first.looks q on (inl earlier))))
        (λ (later : Contains then.seen q). then.looks q on (inl later))
        (Contains-append_cases first.seen then.seen q among))
        (λ (stay : StayOn field mover a s q). then.looks q on (inr (first.looks q on (inr stay))))
        known;
  }

  -- one point, where these are what stays there now
  pub looked-point : (point : Point) (meetings after : List Meeting) (side new : Side) (i : ℕ) (stays default : Stays) →
      IsOn field.board.size point → i ≡ index_of field.board.size point → AreStanding field.board.size (length (shapes_of meetings)) side →
      new.occasions ≡ side.occasions → new.points.items ≡ set side.points.items i stays → new.changed ≡ side.changed → new.standing ≡ side.standing →
      (bit_at (slice_index side.standing.items point.row) point.column ≡ 0 → stays ≡ no_stays) →
      AreStays (length (shapes_of after)) side.occasions stays → patterns_staying (shapes_of after) stays ≡ here point →
      StaysAt side.occasions meetings (get_or side.points.items i default) after stays → PlayedStays meetings after →
      Meets (shapes_of meetings) (here point) (shapes_of after) →
      HasLooked field mover (point ∷ []) [] meetings side after new
  looked-point point meetings after side new i stays default on place standing occasions same changed stood may stay patterns there played meets =
      let size = field.board.size in
      let old = side.points.items in
      let shapes = shapes_of meetings in
      let position = position_of field.board in
      let inside : i < length old = omega (arith, index-inside size point on, standing.room, place) in
      record {
        seen = point ∷ [];
        all = refl;
        standing = record {
          room = ap length same ∙ length-set old i stays ∙ standing.room;
          marks = rw changed standing.marks;
          standing = rw stood standing.standing;
          nothing = λ q on_q none.
              let none_before : bit_at (slice_index side.standing.items q.row) q.column ≡ 0 = ap (λ (v : Vec ℕ Global). bit_at (slice_index v.items q.row) q.column) (sym stood) ∙ none in
              ap (λ all. slice_index_or all (index_of size q) no_stays) same
              ∙ ⊎_elim
              (λ (here_too : index_of size q ≡ i).
              let is : q ≡ point = same-point size q point on_q on (here_too ∙ place) in
              ap (λ k. get_or (set old i stays) k no_stays) here_too
              ∙ get_or-set_same old i stays no_stays inside
              ∙ may (ap (λ (p : Point). bit_at (slice_index side.standing.items p.row) p.column) (sym is) ∙ none_before))
              (λ (other : index_of size q ≡ i → ⊥).
              get_or-set_other old i (index_of size q) stays no_stays other ∙ standing.nothing q on_q none_before)
              (cases_eq (index_of size q) i);
          stays = rw (occasions, same) (stays-step shapes (shapes_of after) side.occasions old i stays meets.extends stay standing.stays);
        };
        occasions = occasions;
        there = λ shape.
            ap₂ (λ n all. there_among after shape + waiting (shapes_of after) n all shape) occasions same
            ∙ there-step meetings after side.occasions old i stays default shape inside meets.extends standing.stays (there shape);
        played = played;
        meets = subst (λ ps. Meets shapes ps (shapes_of after)) (sym (append-nil (here point))) meets;
        looks = λ q on_q known.
            ap (λ all. patterns_staying (shapes_of after) (slice_index_or all (index_of size q) no_stays)) same
            ∙ pending-step field.kinds size position mover shapes (shapes_of after) side.occasions old i stays point q meets.extends standing.stays standing.room place on on_q patterns
            (λ other. ⊎_elim
            (λ (among : Contains (point ∷ []) q). absurd (other (contains-one point q among)))
            (λ (was : StayOn field mover meetings side q). was)
            known);
      }
