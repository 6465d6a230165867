use Rattle.std.proofs.Common.{◌≡◌, ◌≢◌, ◌≤◌, ◌<◌, ◌^◌, ◌∷◌, ℕ, List, [], length, ⊎_elim, Vec, Global, slice_index, set, w64, bit_and, bit_or, refl, ap, sym, subst, ◌∙◌, arith, length-set, get_or-set_same}
use Rattle.std.specs.Int.{bit_at, bit_not, trailing_zeros}
use Rattle.std.specs.Vec.{with_item}
use Rattle.std.proofs.lemmas.List.{get_or_read}
use Rattle.std.proofs.lemmas.List.Elements.{All-set}
use Rattle.std.proofs.lemmas.Nat.{pow_pos}
use Rattle.go_board.specs.Extent.{Extent}
use Rattle.shape_core.specs.KeptLists.{AreMarks}
use Rattle.tally_core.specs.Walk.{shapes_of}
use Rattle.tally_core.specs.Inner.Sight.{points_in, there_at, HasLooked}
use Rattle.tally_core.specs.Inner.Standing.{AreStanding}
use Rattle.tally_core.specs.declared.sides.Side.{Side}
use Rattle.tally_core.proofs.Seeing.{looked-none}
use Rattle.tally_core.proofs.Standing.{IsRow, is-row, going-small, going-filled, coming-small, coming-empty, coming-stands, stands-now, looked-row}
use Rattle.tally_core.proofs.Taken.{IsLowest, cleared, lowest, row-first, row-none, column-inside, fits-columns}
use Rattle.std.proofs.lemmas.Bool.{cases_eq}
use Rattle.go_board.specs.Point.{index_of}
use Rattle.go_board.specs.declared.points.Point.{Point}
use Rattle.tally_core.proofs.Seeing.{looked-more, looked-point}
use Rattle.tally_core.proofs.sides.Side.see_row.Goals as goal
use Rattle.tally_core.proofs.sides.Side.see_row.Goals.{After-empty_columns-empty, After-leave_points}

-- a row of the set is taken out
marks-without : (size : Extent) (rows : List ℕ) (row : ℕ) → AreMarks size rows → AreMarks size (set rows row 0)
marks-without size rows row marks = record {
  rows = length-set rows row 0 ∙ marks.rows;
  within = All-set (λ r. r < 2 ^ size.columns) rows row 0 (pow_pos size.columns) marks.within;
}

-- what is known of the row once its empty points are read
row-is : (c : After-empty_columns-empty) → IsRow c.args.field.now c.args.self.now c.args.row c.index-changed.result.now c.index-standing.result.now c.empty_columns-empty.result
row-is c =
    is-row c.args.field.now (length (shapes_of c.args.meetings.now)) c.args.self.now c.args.row c.from-at.result c.index-changed.result.now c.index-standing.result.now
    c.empty_columns-empty.result c.requires.standing c.requires.row c.empty_columns-empty.ensures.board.extent.few_columns
    c.from-at.ensures c.index-changed.ensures c.index-standing.ensures c.empty_columns-empty.ensures.columns

-- the side once points with a stone were left: the row is taken out of its set, and its empty points may have something that stays
abbrev left-standing : ℕ → ℕ → ℕ → ℕ
left-standing changed standing empty = bit_or (bit_and standing (bit_not w64 changed)) (bit_and changed empty)

abbrev side-now : Side → ℕ → ℕ → ℕ → ℕ → Side
side-now between at changed standing empty = record between {
  changed = with_item between.changed at 0;
  standing = with_item between.standing at (left-standing changed standing empty);
}

now-stands : (c : After-leave_points) →
    IsRow c.args.field.now c.args.self.now c.args.row c.index-changed.result.now c.index-standing.result.now c.empty_columns-empty.result →
    AreStanding c.args.field.now.board.size (length (shapes_of c.leave_points.new.meetings))
    (side-now c.leave_points.new.self c.from-at.result c.index-changed.result.now c.index-standing.result.now c.empty_columns-empty.result)
now-stands c is =
    let changed = c.index-changed.result.now in
    let standing = c.index-standing.result.now in
    let empty = c.empty_columns-empty.result in
    let looked = c.leave_points.ensures.looked c.args.mover in
    let between = c.leave_points.new.self in
    stands-now c.args.field.now c.args.mover c.args.row changed standing empty c.args.meetings.now c.leave_points.new.meetings c.args.self.now between
    (side-now between c.from-at.result changed standing empty) is looked c.leave_points.ensures.standing
    (marks-without c.args.field.now.board.size between.changed.items c.from-at.result looked.standing.marks) refl refl
    (ap (λ k. set between.standing.items k (left-standing changed standing empty)) c.from-at.ensures)

pub returns-then-changed-eq0-clause-looked : goal.returns-then-changed-eq0-clause-looked
returns-then-changed-eq0-clause-looked c =
    let field = c.args.field.now in
    let size = field.board.size in
    let side = c.args.self.now in
    let row = c.args.row in
    let is = c.requires.standing in
    let at : c.from-at.result ≡ row = c.from-at.ensures in
    let changed = c.index-changed.result.now in
    let read : changed ≡ slice_index side.changed.items row =
    get_or_read side.changed.items c.from-at.result changed (omega (arith, at, is.marks.rows, c.requires.row)) c.index-changed.ensures 0 ∙ ap (slice_index side.changed.items) at in
    subst (λ points. HasLooked field c.args.mover points [] c.args.meetings.now side c.args.meetings.now side)
    (sym (row-none size row (slice_index side.changed.items row) (sym read ∙ c.if-changed-eq0.true)))
    (looked-none field c.args.mover [] c.args.meetings.now side side is refl refl)

pub leave_points-requires-clause-columns : goal.leave_points-requires-clause-columns
leave_points-requires-clause-columns c = going-small _ _ _ _ _ _ (row-is (goal.at.leave_points-requires-clause-columns c).After-empty_columns-empty)

pub leave_points-requires-clause-filled : goal.leave_points-requires-clause-filled
leave_points-requires-clause-filled c = going-filled _ _ _ _ _ _ (row-is (goal.at.leave_points-requires-clause-filled c).After-empty_columns-empty)

pub loop-coming-init : goal.loop-coming-init
loop-coming-init c =
    let field = c.args.field.now in
    let size = field.board.size in
    let side = c.args.self.now in
    let row = c.args.row in
    let changed = c.index-changed.result.now in
    let standing = c.index-standing.result.now in
    let empty = c.empty_columns-empty.result in
    let is = row-is (goal.at.loop-coming-init c).After-empty_columns-empty in
    let mover = c.args.mover in
    let looked = c.leave_points.ensures.looked mover in
    let middle = c.leave_points.new.meetings in
    let between = c.leave_points.new.self in
    let now = side-now between c.from-at.result changed standing empty in
    let stands = now-stands (goal.at.loop-coming-init c).After-leave_points is in
    record {
      within = coming-small field side row changed standing empty is;
      changed = refl;
      standing = refl;
      among = λ column set. set;
      occasions = looked.occasions;
      there = looked.there;
      looked = looked-none field mover (points_in size row (bit_and changed empty)) middle now now stands refl refl;
    }

column : (size : Extent) (bits : ℕ) → bits ≢ 0 → bits < 2 ^ size.columns → size.columns ≤ 52 → (trailing_zeros w64 bits < size.columns) × IsLowest bits (trailing_zeros w64 bits)
column size bits some within few =
    let low = lowest bits some (fits-columns bits size.columns within few) in
    (column-inside bits (trailing_zeros w64 bits) size.columns low.set within, low)

pub index-requires : goal.index-requires
index-requires c =
    let size = c.args.field.now.board.size in
    let bits = c.loop-coming.coming in
    let inv = c.loop-coming.invariant in
    let low = column size bits c.loop-coming-test.true inv.within c.size-size.ensures.board.extent.few_columns in
    rw c.size-size.ensures.value (low.0, c.requires.row)

pub see_point-requires-clause-on_board : goal.see_point-requires-clause-on_board
see_point-requires-clause-on_board c =
    let size = c.args.field.now.board.size in
    let bits = c.loop-coming.coming in
    let inv = c.loop-coming.invariant in
    let low = column size bits c.loop-coming-test.true inv.within c.size-size.ensures.board.extent.few_columns in
    (low.0, c.requires.row)

pub see_point-requires-clause-empty : goal.see_point-requires-clause-empty
see_point-requires-clause-empty c =
    let inv = c.loop-coming.invariant in
    let low = column c.args.field.now.board.size c.loop-coming.coming c.loop-coming-test.true inv.within c.size-size.ensures.board.extent.few_columns in
    coming-empty _ _ _ _ _ _ (row-is (goal.at.see_point-requires-clause-empty c).After-empty_columns-empty) _ (inv.among _ low.1.set)

pub loop-coming-smaller : goal.loop-coming-smaller
loop-coming-smaller c =
    let size = c.args.field.now.board.size in
    let bits = c.loop-coming.coming in
    let inv = c.loop-coming.invariant in
    let low = column size bits c.loop-coming-test.true inv.within c.size-size.ensures.board.extent.few_columns in
    low.1.below

pub loop-coming-preserved : goal.loop-coming-preserved
loop-coming-preserved c =
    let field = c.args.field.now in
    let size = field.board.size in
    let side = c.args.self.now in
    let row = c.args.row in
    let changed = c.index-changed.result.now in
    let standing = c.index-standing.result.now in
    let empty = c.empty_columns-empty.result in
    let is = row-is (goal.at.loop-coming-preserved c).After-empty_columns-empty in
    let mover = c.args.mover in
    let looked = c.leave_points.ensures.looked mover in
    let middle = c.leave_points.new.meetings in
    let between = c.leave_points.new.self in
    let now = side-now between c.from-at.result changed standing empty in
    let left = left-standing changed standing empty in
    let bits = c.loop-coming.coming in
    let inv = c.loop-coming.invariant in
    let low = column size bits c.loop-coming-test.true inv.within c.size-size.ensures.board.extent.few_columns in
    let k = trailing_zeros w64 bits in
    let point : Point = record { column = k; row = row } in
    let now_side = c.loop-coming.self in
    let seen = c.in_ok-see_point.ensures in
    let occasions : now_side.occasions ≡ side.occasions = inv.looked.occasions ∙ looked.occasions in
    let met = c.loop-coming.meetings in
    let after = c.see_point.new.meetings in
    let stays = c.see_point.new.stays in
    let old = c.index_mut-stays.result.now in
    let rest = points_in size row (cleared bits) in
    let points = points_in size row (bit_and changed empty) in
    let place : c.index.result ≡ index_of size point = c.index.ensures.value ∙ ap (λ (s : Extent). index_of s point) c.size-size.ensures.value in
    let first = subst (λ all. HasLooked field mover points all middle now met now_side)
    (row-first size row bits (cleared bits) k low.1.set low.1.none low.1.gone low.1.others low.0) inv.looked in
    let open_there : bit_at (slice_index now_side.standing.items row) k ≡ 1 =
    ap (λ (v : Vec ℕ Global). bit_at (slice_index v.items row) k) inv.standing
    ∙ ap (λ n. bit_at (slice_index (set between.standing.items n left) row) k) c.from-at.ensures
    ∙ ap (λ n. bit_at n k) (get_or-set_same between.standing.items row left 0 (omega (arith, looked.standing.standing.rows, c.requires.row)))
    ∙ coming-stands field side row changed standing empty is k (inv.among k low.1.set) in
    let within : cleared bits < 2 ^ size.columns = omega (arith, inv.within, low.1.below) in
    let looked_now = looked-more field mover points (point ∷ []) rest middle met after now now_side _ first
    (looked-point field mover point met after now_side _ c.index.result stays old
    (low.0, c.requires.row) place inv.looked.standing refl refl refl refl
    (λ none. absurd (omega (arith, none, open_there)))
    (rw occasions seen.stays) seen.patterns
    (rw occasions (λ shape. seen.there shape ∙ ap (λ s. there_at met side.occasions s shape) c.index_mut-stays.ensures.value))
    seen.played seen.meets) in
    record {
      within = within;
      changed = inv.changed;
      standing = inv.standing;
      among = λ column set. inv.among column (⊎_elim
          (λ (same : column ≡ k). absurd (omega (arith, ap (bit_at (cleared bits)) (sym same) ∙ set, low.1.gone)))
          (λ (other : column ≡ k → ⊥). sym (low.1.others column other) ∙ set)
          (cases_eq column k));
      occasions = looked_now.occasions ∙ looked.occasions;
      there = λ shape. looked_now.there shape ∙ looked.there shape;
      looked = looked_now;
    }

pub returns-clause-looked : goal.returns-clause-looked
returns-clause-looked c =
    let field = c.args.field.now in
    let size = field.board.size in
    let side = c.args.self.now in
    let row = c.args.row in
    let changed = c.index-changed.result.now in
    let standing = c.index-standing.result.now in
    let empty = c.empty_columns-empty.result in
    let is = row-is (goal.at.returns-clause-looked c).After-empty_columns-empty in
    let mover = c.args.mover in
    let looked = c.leave_points.ensures.looked mover in
    let middle = c.leave_points.new.meetings in
    let between = c.leave_points.new.self in
    let now = side-now between c.from-at.result changed standing empty in
    let stands = now-stands (goal.at.returns-clause-looked c).After-leave_points is in
    let first = looked in
    let going : HasLooked field mover (points_in size row (bit_and (bit_and changed standing) (bit_not w64 empty))) [] c.args.meetings.now side middle now = record {
      seen = first.seen;
      all = first.all;
      standing = stands;
      occasions = first.occasions;
      there = first.there;
      played = first.played;
      meets = first.meets;
      looks = first.looks;
    } in
    let come : HasLooked field mover (points_in size row (bit_and changed empty)) [] middle now c.loop-coming.meetings c.loop-coming.self =
    subst (λ rest. HasLooked field mover (points_in size row (bit_and changed empty)) rest middle now c.loop-coming.meetings c.loop-coming.self)
    (row-none size row c.loop-coming.coming c.loop-coming-test.false) c.loop-coming.invariant.looked in
    rw (sym is.changed_is) (looked-row field mover row changed standing empty c.args.meetings.now middle c.loop-coming.meetings side now c.loop-coming.self is c.requires.standing going come)
