-- Actions that are walked one after another.
use Rattle.std.proofs.Common.{◌≡◌, ℕ, ◌+◌, ◌*◌, ◌^◌, ◌≤◌, ◌<◌, List, [], ◌∷◌, ◌++◌, length, drop, get_or, Vec, Global, refl, ap, ap₂, sym, subst, ◌∙◌, append_assoc, length-append, add-one, drop-cons, arith}
use Rattle.std.specs.List.{flat_map}
use Rattle.std.proofs.lemmas.List.{append-nil}
use Rattle.std.proofs.lemmas.List.Concat.{flat_map-append}
use Rattle.go_board.specs.Extent.{Extent, IsExtent}
use Rattle.go_board.specs.Position.{Position}
use Rattle.go_board.specs.Board.{position_of}
use Rattle.go_record.specs.Replay.{Does}
use Rattle.go_record.specs.declared.actions.Action.{Action}
use Rattle.shape_core.specs.declared.words.Kinds.{Kinds}
use Rattle.tally_core.specs.Occasions.{HasOccasions, occasion_of}
use Rattle.tally_core.specs.Counts.{kinds_of, patterns_there, patterns_played}
use Rattle.tally_core.specs.Inner.Times.{times_in}
use Rattle.tally_core.specs.Walk.{there_among, played_among, shapes_of, once_each}
use Rattle.tally_core.specs.Inner.Standing.{waiting, there_both, HaveRoom, CountsOccasions, KeepsCounts, IsNewSide, IsFront, IsWalkOf}
use Rattle.tally_core.specs.declared.meetings.Meeting.{Meeting}
use Rattle.tally_core.specs.declared.stays.Stays.{Stays}
use Rattle.tally_core.specs.declared.game_walks.GameWalk.{GameWalk}
use Rattle.tally_core.proofs.Once.{once_same}
use Rattle.tally_core.proofs.Lasting.{times-append}
use Rattle.tally_core.proofs.Bounded.{there-few, played-few}

-- none yet
pub front-begins : (all : List Action) (walk : GameWalk) → walk.meetings ≡ [] → IsNewSide walk.field.board.size walk.black → IsNewSide walk.field.board.size walk.white →
    IsFront all all (position_of walk.field.board) walk 0
front-begins all walk none black white =
    let met = walk.meetings in
    record {
      done = [];
      others = λ others h. h;
      moves_counted = refl;
      there = λ shape.
          omega (
            arith,
            ap (λ m. there_among m shape) none,
            ap (λ n. waiting (shapes_of met) n walk.black.points.items shape) black.occasions,
            black.nothing (shapes_of met) shape,
            ap (λ n. waiting (shapes_of met) n walk.white.points.items shape) white.occasions,
            white.nothing (shapes_of met) shape,
          );
      played = λ shape. ap (λ m. played_among m shape) none;
      order = ap (λ m. once_each (shapes_of m)) none;
    }

-- what is counted and what stays, once an action was done that counts nothing
there-kept : (before after : GameWalk) (shape : ℕ) → KeepsCounts before after → there_both after shape ≡ there_both before shape
there-kept before after shape keeps =
    ap₂ (λ x y. x + y)
    (ap₂ (λ x y. x + y)
    (ap (λ m. there_among m shape) keeps.meetings)
    (ap (λ m. waiting (shapes_of m) after.black.occasions after.black.points.items shape) keeps.meetings
    ∙ ap₂ (λ n (points : Vec Stays Global). waiting (shapes_of before.meetings) n points.items shape) keeps.black_occasions keeps.black_points))
    (ap (λ m. waiting (shapes_of m) after.white.occasions after.white.points.items shape) keeps.meetings
    ∙ ap₂ (λ n (points : Vec Stays Global). waiting (shapes_of before.meetings) n points.items shape) keeps.white_occasions keeps.white_points)

-- one action more: its occasions were counted, and then it was done
pub front-grows : (all left : List Action) (action : Action) (start : Position) (before counted after : GameWalk) (moves more : ℕ) →
    IsFront all (action ∷ left) start before moves → CountsOccasions (occasion_of (position_of before.field.board) action) before counted more →
    KeepsCounts counted after → after.field.board.size ≡ before.field.board.size → after.field.kinds ≡ before.field.kinds →
    Does before.field.board.size action (position_of before.field.board) (position_of after.field.board) → IsFront all left start after (moves + more)
front-grows all left action start before counted after moves more front counts keeps same_size same_kinds does =
    let kinds = before.field.kinds in
    let size = before.field.board.size in
    let there = patterns_there (kinds_of kinds) size in
    let played = patterns_played (kinds_of kinds) size in
    let o = occasion_of (position_of before.field.board) action in
    let there_now = λ (k : Kinds) (s : Extent). patterns_there (kinds_of k) s in
    let played_now = λ (k : Kinds) (s : Extent). patterns_played (kinds_of k) s in
    record {
      done = front.done ++ o;
      others = λ others h. subst (HasOccasions after.field.board.size all start) (sym (append_assoc front.done o others))
          (subst (λ (s : Extent). HasOccasions s all start (front.done ++ (o ++ others))) (sym same_size)
          (front.others (o ++ others) (position_of after.field.board, others, does, subst (λ (s : Extent). HasOccasions s left (position_of after.field.board) others) same_size h, refl)));
      moves_counted = ap (λ n. n + more) front.moves_counted ∙ ap (λ n. length front.done + n) counts.moves_counted ∙ sym (length-append front.done o);
      there = λ shape.
          omega (
            arith,
            there-kept counted after shape keeps,
            counts.there shape,
            front.there shape,
            ap (λ ps. times_in ps shape) (flat_map-append there front.done o),
            times-append shape (flat_map there front.done) (flat_map there o),
          )
          ∙ sym (ap₂ (λ (k : Kinds) (s : Extent). times_in (flat_map (there_now k s) (front.done ++ o)) shape) same_kinds same_size);
      played = λ shape.
          omega (
            arith,
            ap (λ m. played_among m shape) keeps.meetings,
            counts.played shape,
            front.played shape,
            ap (λ ps. times_in ps shape) (flat_map-append played front.done o),
            times-append shape (flat_map played front.done) (flat_map played o),
          )
          ∙ sym (ap₂ (λ (k : Kinds) (s : Extent). times_in (flat_map (played_now k s) (front.done ++ o)) shape) same_kinds same_size);
      order =
          ap (λ m. once_each (shapes_of m)) keeps.meetings
          ∙ counts.meets.order
          ∙ once_same (shapes_of before.meetings) (flat_map there front.done) (flat_map there o) front.order
          ∙ ap once_each (sym (flat_map-append there front.done o))
          ∙ sym (ap₂ (λ (k : Kinds) (s : Extent). once_each (flat_map (there_now k s) (front.done ++ o))) same_kinds same_size);
    }

-- the next action of a list
pub front-steps : (all : List Action) (i : ℕ) (default : Action) (start : Position) (before counted after : GameWalk) (moves more : ℕ) →
    i < length all → IsFront all (drop i all) start before moves → CountsOccasions (occasion_of (position_of before.field.board) (get_or all i default)) before counted more →
    KeepsCounts counted after → after.field.board.size ≡ before.field.board.size → after.field.kinds ≡ before.field.kinds →
    Does before.field.board.size (get_or all i default) (position_of before.field.board) (position_of after.field.board) → IsFront all (drop (i + 1) all) start after (moves + more)
front-steps all i default start before counted after moves more inside front counts keeps size kinds does =
    let action = get_or all i default in
    let split : drop i all ≡ action ∷ drop (i + 1) all = rw (add-one, drop-cons all i default) in
    front-grows all (drop (i + 1) all) action start before counted after moves more
    (subst (λ left. IsFront all left start before moves) split front) counts keeps size kinds does

-- what was counted of the first actions
pub front-few : (all left : List Action) (start : Position) (walk : GameWalk) (moves : ℕ) (shape : ℕ) → IsExtent walk.field.board.size →
    IsFront all left start walk moves → there_both walk shape ≤ 5408 * moves
front-few all left start walk moves shape extent front =
    omega (arith, front.there shape, front.moves_counted, there-few walk.field.kinds walk.field.board.size front.done shape extent)

-- one more passes no limit
pub front-room : (all left : List Action) (start : Position) (walk : GameWalk) (moves i : ℕ) → IsExtent walk.field.board.size →
    5410 * length all < 2 ^ 64 → i < length all → moves ≤ i → walk.black.occasions ≤ i → walk.white.occasions ≤ i →
    IsFront all left start walk moves → HaveRoom walk
front-room all left start walk moves i extent few inside most black white front = record {
  there = λ shape. omega (arith, front-few all left start walk moves shape extent front, few, inside, most);
  played = λ shape. omega (arith, front.played shape, front.moves_counted, played-few walk.field.kinds walk.field.board.size front.done shape, few, inside, most);
  black = omega (arith, few, inside, black);
  white = omega (arith, few, inside, white);
}

-- all actions were walked, and what stays is settled
pub front-ends : (all left : List Action) (start : Position) (walk : GameWalk) (new : List Meeting) (moves : ℕ) → left ≡ [] →
    shapes_of new ≡ shapes_of walk.meetings → ((shape : ℕ) → there_among new shape ≡ there_both walk shape) → ((shape : ℕ) → played_among new shape ≡ played_among walk.meetings shape) →
    IsFront all left start walk moves → IsWalkOf walk.field.kinds walk.field.board.size all start new moves
front-ends all left start walk new moves none shapes there played front =
    let size = walk.field.board.size in
    record {
      occasions = front.done;
      replayed = subst (HasOccasions size all start) (append-nil front.done)
          (front.others [] (subst (λ actions. HasOccasions size actions (position_of walk.field.board) []) (sym none) refl));
      moves_counted = front.moves_counted;
      there = λ shape. there shape ∙ front.there shape;
      played = λ shape. played shape ∙ front.played shape;
      order = ap once_each shapes ∙ front.order;
    }
