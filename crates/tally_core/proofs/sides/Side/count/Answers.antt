use Rattle.std.proofs.Common.{◌≡◌, ◌==◌, ◌≤◌, ◌<◌, ◌+◌, ◌-◌, ◌++◌, refl, ℕ, true, List, length, filter, slice_index, slice_index_or, Contains, inl, inr, ⊎_elim, ap, sym, subst, ◌∙◌, arith}
use Rattle.std.specs.Int.{bit_at}
use Rattle.std.specs.List.{flat_map}
use Rattle.std.proofs.lemmas.Bool.Decides.{nat_tests}
use Rattle.std.proofs.lemmas.List.{append-nil, get_or_default}
use Rattle.std.proofs.lemmas.List.Elements.{All-weaker}
use Rattle.go_board.specs.Extent.{Extent}
use Rattle.go_board.specs.Board.{position_of}
use Rattle.go_board.specs.Point.{index_of}
use Rattle.go_board.specs.declared.points.Point.{Point}
use Rattle.go_board.specs.declared.points.Colour.{Colour}
use Rattle.shape_core.specs.Field.{Kept, IsMarked}
use Rattle.shape_core.specs.Word.{count_from}
use Rattle.tally_core.specs.Counts.{points_of, row_of}
use Rattle.tally_core.specs.Walk.{shapes_of}
use Rattle.tally_core.specs.Inner.Times.{times_in}
use Rattle.tally_core.specs.Inner.Meeting.{Meets}
use Rattle.tally_core.specs.Inner.Standing.{AreStays, IsSeen, waiting, is_in_set, no_stays, patterns_of, patterns_staying}
use Rattle.tally_core.specs.Inner.Sight.{here_on, seen_on, played_on, changed_in, HasLooked, StayOn, IsSideOn, IsSeenOn}
use Rattle.tally_core.specs.declared.meetings.Meeting.{Meeting}
use Rattle.tally_core.specs.declared.sides.Side.{Side}
use Rattle.tally_core.proofs.Among.{in-filter, in-points, contains-in}
use Rattle.tally_core.proofs.Lasting.{waiting-longer, stays-longer, times-append}
use Rattle.tally_core.proofs.Seeing.{here-empty, index-inside, looked-none, looked-more}
use Rattle.tally_core.proofs.Skipped.{meets-all}
use Rattle.tally_core.proofs.Summed.{seen-sum}
use Rattle.tally_core.proofs.Taken.{rows-first}
use Rattle.tally_core.proofs.sides.Side.count.Goals as goal
use Rattle.tally_core.proofs.sides.Side.count.Goals.{After-get-stays, After-loop-row}

is-set : (n : ℕ) → n ≡ 1 → (n == 1) ≡ true
is-set n h = Prim.grind (arith, nat_tests)

pub loop-row-init : goal.loop-row-init
loop-row-init c = record {
  same = λ k more. refl;
  looked = looked-none c.args.field.now c.args.mover (filter (is_in_set c.args.self.now.changed.items) (flat_map (row_of c.args.field.now.board.size) (count_from 0 (c.rows-row-end.result - 0))))
      c.args.meetings.now c.args.self.now c.args.self.now c.requires.side.standing refl refl;
}

pub loop-row-preserved : goal.loop-row-preserved
loop-row-preserved c =
    let field = c.args.field.now in
    let size = field.board.size in
    let mover = c.args.mover in
    let side = c.args.self.now in
    let set = side.changed.items in
    let row = c.loop-row.row in
    let last = c.rows-row-end.result in
    let is = c.loop-row.invariant in
    let points = λ (first : ℕ). filter (is_in_set set) (flat_map (row_of size) (count_from first (last - first))) in
    let here : changed_in size c.loop-row.self row ≡ filter (λ (q : Point). bit_at (slice_index set row) q.column == 1) (row_of size row) =
    ap (λ bits. filter (λ (q : Point). bit_at bits q.column == 1) (row_of size row)) (is.same row (omega arith)) in
    let parted : points row ≡ changed_in size c.loop-row.self row ++ points (row + 1) =
    rows-first set size row last (omega arith) ∙ ap (λ ps. ps ++ points (row + 1)) (sym here) in
    record {
      same = λ k more. c.see_row.ensures.later k (omega (arith, more)) ∙ is.same k (omega (arith, more));
      looked = looked-more field mover (points 0) (changed_in size c.loop-row.self row) (points (row + 1)) c.args.meetings.now c.loop-row.meetings c.see_row.new.meetings side c.loop-row.self c.see_row.new.self
          (subst (λ left. HasLooked field mover (points 0) left c.args.meetings.now side c.loop-row.meetings c.loop-row.self) parted is.looked)
          c.in_ok-see_row.ensures.looked;
    }

-- at the end all points of the set were looked at
all-seen : (size : Extent) (set : List ℕ) (row last : ℕ) (seen : List Point) → last ≤ row → last ≡ size.rows →
    seen ++ filter (is_in_set set) (flat_map (row_of size) (count_from row (last - row))) ≡ filter (is_in_set set) (flat_map (row_of size) (count_from 0 (last - 0))) →
    seen ≡ filter (is_in_set set) (points_of size)
all-seen size set row last seen end rows all =
    let none : last - row ≡ 0 = omega (arith, end) in
    let whole : last - 0 ≡ size.rows = omega (arith, rows) in
    sym (append-nil seen)
    ∙ ap (λ n. seen ++ filter (is_in_set set) (flat_map (row_of size) (count_from row n))) (sym none)
    ∙ all
    ∙ ap (λ n. filter (is_in_set set) (flat_map (row_of size) (count_from 0 n))) whole

-- once all rows were looked at, what stays is what is there, and its patterns were met
seen-on : (field : Kept) (mover : Colour) (before : List Meeting) (side : Side) (after : List Meeting) (new : Side) (row last : ℕ) → IsSideOn field mover before side →
    last ≤ row → last ≡ field.board.size.rows →
    HasLooked field mover (filter (is_in_set side.changed.items) (flat_map (row_of field.board.size) (count_from 0 (last - 0))))
    (filter (is_in_set side.changed.items) (flat_map (row_of field.board.size) (count_from row (last - row)))) before side after new →
    IsSeenOn field mover after new × Meets (shapes_of before) (seen_on field mover) (shapes_of after)
seen-on field mover before side after new row last is end rows looked =
    let size = field.board.size in
    let set = side.changed.items in
    let seen = all-seen size set row last looked.seen end rows looked.all in
    let sees : IsSeenOn field mover after new = record {
      standing = looked.standing;
      pending = λ q on. looked.looks q on
          (⊎_elim
          (λ (marked : IsMarked set q).
          inl (subst (λ points. Contains points q) (sym seen)
          (contains-in q (filter (is_in_set set) (points_of size))
          (in-filter (is_in_set set) q (points_of size) (is-set (bit_at (slice_index set q.row) q.column) marked) (in-points size q on)))))
          (λ (stay : StayOn field mover before side q). inr stay)
          (is.pending q on));
    } in (
      sees,
      meets-all field.kinds size (position_of field.board) mover (shapes_of before) (shapes_of after) side is
          (subst (λ points. Meets (shapes_of before) (flat_map (here_on field mover) points) (shapes_of after)) seen looked.meets),
    )

-- that is so after the loop
seen-all : (c : After-loop-row) → IsSeenOn c.args.field.now c.args.mover c.loop-row.meetings c.loop-row.self
    × Meets (shapes_of c.args.meetings.now) (seen_on c.args.field.now c.args.mover) (shapes_of c.loop-row.meetings)
seen-all c =
    seen-on c.args.field.now c.args.mover c.args.meetings.now c.args.self.now c.loop-row.meetings c.loop-row.self c.loop-row.row c.rows-row-end.result c.requires.side c.loop-row-test.false
    (c.rows-row-end.ensures.value ∙ ap (λ (s : Extent). s.rows) c.size.ensures.value) c.loop-row.invariant.looked

-- the place of the move's point is one of the side's
at-place : (c : After-get-stays) → (c.index.result ≡ index_of c.args.field.now.board.size c.args.at) × (c.index.result < length c.loop-row.self.points.items)
at-place c =
    let place : c.index.result ≡ index_of c.args.field.now.board.size c.args.at = c.index.ensures.value ∙ ap (λ (s : Extent). index_of s c.args.at) c.size-2.ensures.value in
    (place, omega (arith, index-inside c.args.field.now.board.size c.args.at c.requires.on_board, c.loop-row.invariant.looked.standing.room, place))

-- what stays there was met
stays-there : (c : After-get-stays) → AreStays (length (shapes_of c.loop-row.meetings)) c.loop-row.self.occasions c.get-stays.result
stays-there c =
    let stays = c.index-2.result.now in
    subst (AreStays (length (shapes_of c.loop-row.meetings)) c.loop-row.self.occasions) (sym (c.get-stays.ensures ∙ c.index-2.ensures))
    (c.loop-row.invariant.looked.standing.stays c.index.result stays (at-place c).1)

pub play-requires-clause-stay : goal.play-requires-clause-stay
play-requires-clause-stay c = (c.loop-row.self.occasions, (stays-there (goal.at.play-requires-clause-stay c).After-get-stays).square)

pub play-requires-2-clause-stay : goal.play-requires-2-clause-stay
play-requires-2-clause-stay c =
    let stays = c.get-stays.result in
    let good = stays-there (goal.at.play-requires-2-clause-stay c).After-get-stays in
    let still : AreStays (length (shapes_of c.play.new.meetings)) c.loop-row.self.occasions stays =
    subst (λ shapes. AreStays (length shapes) c.loop-row.self.occasions stays) (sym c.play.ensures.shapes) good in
    (c.loop-row.self.occasions, still.diamond)

pub returns-clause-seen : goal.returns-clause-seen
returns-clause-seen c =
    let field = c.args.field.now in
    let looked = c.loop-row.invariant.looked in
    let side = c.loop-row.self in
    let seen = seen-all (goal.at.returns-clause-seen c).After-loop-row in
    let shapes = shapes_of c.loop-row.meetings in
    let same : shapes_of c.play-2.new.meetings ≡ shapes = c.play-2.ensures.shapes ∙ c.play.ensures.shapes in
    let now : Side = record side { occasions = side.occasions + 1 } in
    subst (λ all. IsSeen field.kinds field.board.size (position_of field.board) c.args.mover all now) (sym same)
    (record {
      standing = record {
        room = looked.standing.room;
        marks = looked.standing.marks;
        stays = All-weaker (AreStays (length shapes) side.occasions) (AreStays (length shapes) (side.occasions + 1)) (stays-longer (length shapes) side.occasions) side.points.items looked.standing.stays;
        standing = looked.standing.standing;
        nothing = looked.standing.nothing;
      };
      pending = seen.0.pending;
    })

pub returns-clause-played : goal.returns-clause-played
returns-clause-played c shape =
    let field = c.args.field.now in
    let side = c.loop-row.self in
    let seen = seen-all (goal.at.returns-clause-played c).After-loop-row in
    let place = at-place (goal.at.returns-clause-played c).After-get-stays in
    let stays = c.get-stays.result in
    let shapes = shapes_of c.loop-row.meetings in
    let patterns : patterns_staying shapes stays ≡ played_on field c.args.mover c.args.at =
    ap (patterns_staying shapes) (c.get-stays.ensures ∙ c.index-2.ensures ∙ get_or_default side.points.items c.index.result c.index-2.result.now no_stays place.1 ∙ ap (λ i. slice_index_or side.points.items i no_stays) place.0)
    ∙ seen.0.pending c.args.at c.requires.on_board
    ∙ here-empty field.kinds field.board.size (position_of field.board) c.args.mover c.args.at c.requires.empty in
    omega (
      arith,
      c.play-2.ensures.played shape,
      c.play.ensures.played shape,
      ap (λ all. times_in (patterns_of all stays.diamond) shape) c.play.ensures.shapes,
      times-append shape (patterns_of shapes stays.square) (patterns_of shapes stays.diamond),
      ap (λ all. times_in all shape) patterns,
      c.loop-row.invariant.looked.played shape,
    )

pub returns-clause-meets : goal.returns-clause-meets
returns-clause-meets c =
    subst (Meets (shapes_of c.args.meetings.now) (seen_on c.args.field.now c.args.mover)) (sym (c.play-2.ensures.shapes ∙ c.play.ensures.shapes))
    (seen-all (goal.at.returns-clause-meets c).After-loop-row).1

pub returns-clause-there : goal.returns-clause-there
returns-clause-there c shape =
    let field = c.args.field.now in
    let side = c.loop-row.self in
    let seen = seen-all (goal.at.returns-clause-there c).After-loop-row in
    let shapes = shapes_of c.loop-row.meetings in
    let points = side.points.items in
    let same : shapes_of c.play-2.new.meetings ≡ shapes = c.play-2.ensures.shapes ∙ c.play.ensures.shapes in
    omega (
      arith,
      ap (λ shapes. waiting shapes (side.occasions + 1) points shape) same,
      c.play-2.ensures.there shape,
      c.play.ensures.there shape,
      waiting-longer shapes (length shapes) side.occasions points shape c.loop-row.invariant.looked.standing.stays,
      seen-sum field.kinds field.board.size (position_of field.board) c.args.mover shapes side shape seen.0,
      c.loop-row.invariant.looked.there shape,
    )
