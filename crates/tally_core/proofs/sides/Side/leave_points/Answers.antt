use Rattle.std.proofs.Common.{◌≡◌, ◌≢◌, ℕ, length, ◌<◌, ◌≤◌, ◌^◌, ◌∷◌, [], w64, refl, ap, sym, subst, ◌∙◌, ⊎_elim, arith}
use Rattle.std.specs.Int.{bit_at, trailing_zeros}
use Rattle.go_board.specs.Extent.{Extent}
use Rattle.go_board.specs.Point.{index_of}
use Rattle.go_board.specs.declared.points.Point.{Point}
use Rattle.go_board.specs.declared.points.Colour.{Colour}
use Rattle.go_board.specs.declared.points.Colour.TheVariants as colour
use Rattle.std.specs.Vec.{with_item}
use Rattle.tally_core.specs.declared.sides.Side.{Side}
use Rattle.tally_core.specs.Inner.Meeting.{Meets}
use Rattle.tally_core.specs.Inner.Sight.{here_on, points_in, there_at, StaysWith, HasLooked}
use Rattle.tally_core.specs.declared.stays.Stays.{Stays}
use Rattle.tally_core.specs.Inner.Standing.{no_stays, AreStanding}
use Rattle.tally_core.proofs.Once.{meets_none}
use Rattle.tally_core.proofs.Seeing.{looked-none, looked-more, looked-point}
use Rattle.tally_core.proofs.Standing.{here-filled}
use Rattle.tally_core.specs.Walk.{shapes_of}
use Rattle.std.proofs.lemmas.Bool.{cases_eq}
use Rattle.tally_core.proofs.Taken.{IsLowest, cleared, lowest, row-first, row-none, column-inside, fits-columns}
use Rattle.tally_core.proofs.sides.Side.leave_points.Goals as goal

pub loop-bits-init : goal.loop-bits-init
loop-bits-init c =
    let field = c.args.field.now in
    let side = c.args.self.now in
    record {
      within = c.requires.columns;
      changed = refl;
      standing = refl;
      among = λ column is. is;
      looked = λ mover. looked-none field mover (points_in field.board.size c.args.row c.args.columns) c.args.meetings.now side side c.requires.standing refl refl;
      standing_now = c.requires.standing;
      occasions = refl;
      there = λ shape. refl;
    }

column : (size : Extent) (bits : ℕ) → bits ≢ 0 → bits < 2 ^ size.columns → size.columns ≤ 52 → (trailing_zeros w64 bits < size.columns) × IsLowest bits (trailing_zeros w64 bits)
column size bits some within few =
    let low = lowest bits some (fits-columns bits size.columns within few) in
    (column-inside bits (trailing_zeros w64 bits) size.columns low.set within, low)

pub index-requires : goal.index-requires
index-requires c =
    let size = c.args.field.now.board.size in
    let low = column size c.loop-bits.bits c.loop-bits-test.true c.loop-bits.invariant.within c.size-size.ensures.board.extent.few_columns in
    rw c.size-size.ensures.value (low.0, c.requires.row)

pub loop-bits-smaller : goal.loop-bits-smaller
loop-bits-smaller c =
    (column c.args.field.now.board.size c.loop-bits.bits c.loop-bits-test.true c.loop-bits.invariant.within c.size-size.ensures.board.extent.few_columns).1.below

pub loop-bits-preserved : goal.loop-bits-preserved
loop-bits-preserved c =
    let field = c.args.field.now in
    let size = field.board.size in
    let row = c.args.row in
    let bits = c.loop-bits.bits in
    let is = c.loop-bits.invariant in
    let low = column size bits c.loop-bits-test.true is.within c.size-size.ensures.board.extent.few_columns in
    let k = trailing_zeros w64 bits in
    let point : Point = record { column = k; row = row } in
    let side = c.loop-bits.self in
    let settled = c.settle_point.ensures in
    let before = c.loop-bits.meetings in
    let after = c.settle_point.new.meetings in
    let old = c.index_mut-stays.result.now in
    let left = points_in size row (cleared bits) in
    let points = points_in size row c.args.columns in
    let place : c.index.result ≡ index_of size point = c.index.ensures.value ∙ ap (λ (s : Extent). index_of s point) c.size-size.ensures.value in
    let with_stays = λ (s : Stays). record side { points = with_item side.points c.index.result s } in
    let new : Side = with_stays no_stays in
    let looked : (mover : Colour) → HasLooked field mover points left c.args.meetings.now c.args.self.now after new = λ mover.
    let none = here-filled field mover point (c.requires.filled k (is.among k low.1.set)) in
    let first = subst (λ all. HasLooked field mover points all c.args.meetings.now c.args.self.now c.loop-bits.meetings side)
    (row-first size row bits (cleared bits) k low.1.set low.1.none low.1.gone low.1.others low.0) (is.looked mover) in
    looked-more field mover points (point ∷ []) left c.args.meetings.now before after c.args.self.now side new first
    (looked-point field mover point before after side new c.index.result no_stays old
    (low.0, c.requires.row) place is.standing_now refl refl refl refl
    (λ closed. refl)
    (record { square = tt; diamond = tt }) (sym none)
    (rw is.occasions (λ shape. omega (arith, settled.there shape, ap (λ s. there_at before c.args.self.now.occasions s shape) (c.get.ensures ∙ c.index_mut-stays.ensures.value))))
    settled.played
    (subst (λ shapes. Meets (shapes_of before) (here_on field mover point) shapes) (sym settled.shapes)
    (subst (λ patterns. Meets (shapes_of before) patterns (shapes_of before)) (sym none) (meets_none (shapes_of before))))) in
    let one = looked colour.Black in
    record {
      within = omega (arith, is.within, low.1.below);
      changed = is.changed;
      standing = is.standing;
      among = λ column set. is.among column (⊎_elim
          (λ (same : column ≡ k). absurd (omega (arith, ap (bit_at (cleared bits)) (sym same) ∙ set, low.1.gone)))
          (λ (other : column ≡ k → ⊥). sym (low.1.others column other) ∙ set)
          (cases_eq column k));
      looked = λ mover. subst (λ (s : Stays). HasLooked field mover points left c.args.meetings.now c.args.self.now after (with_stays s)) (sym c.none.ensures) (looked mover);
      standing_now = subst (λ (s : Stays). AreStanding size (length (shapes_of after)) (with_stays s)) (sym c.none.ensures) one.standing;
      occasions = one.occasions;
      there = subst (λ (s : Stays). StaysWith c.args.meetings.now c.args.self.now after (with_stays s)) (sym c.none.ensures) one.there;
    }

pub returns-clause-looked : goal.returns-clause-looked
returns-clause-looked c = λ mover.
    let field = c.args.field.now in
    let size = field.board.size in
    let row = c.args.row in
    let side = c.args.self.now in
    subst (λ left. HasLooked field mover (points_in size row c.args.columns) left c.args.meetings.now side c.loop-bits.meetings c.loop-bits.self)
    (row-none size row c.loop-bits.bits c.loop-bits-test.false) ((c.loop-bits.invariant.looked) mover)
