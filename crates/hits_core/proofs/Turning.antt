-- The hits of an action, and those of the first actions of a game.
use Rattle.std.proofs.Common.{◌≡◌, ℕ, ◌+◌, ◌<◌, ◌≤◌, true, cond, List, [], ◌∷◌, ◌++◌, length, map, filter, drop, get_or, refl, ap, sym, subst, ◌∙◌, arith, append_assoc, add-one, drop-cons}
use Rattle.std.specs.List.{flat_map}
use Rattle.std.proofs.lemmas.List.{append-nil}
use Rattle.std.proofs.lemmas.List.Concat.{flat_map-append}
use Rattle.go_board.specs.Extent.{Extent}
use Rattle.go_board.specs.Position.{Position, AreSame}
use Rattle.go_board.specs.Board.{position_of}
use Rattle.go_board.specs.declared.points.Point.{Point}
use Rattle.go_board.specs.declared.points.Colour.{Colour}
use Rattle.go_record.specs.Replay.{Does, empty_position}
use Rattle.go_record.specs.declared.actions.Action.{Action}
use Rattle.go_record.specs.declared.actions.Action.TheVariants as action
use Rattle.shape_core.specs.Field.{Kept}
use Rattle.tally_core.specs.Occasions.{is_empty, occasion_of}
use Rattle.tally_core.specs.Counts.{points_of}
use Rattle.hits_core.specs.declared.found.Found.{Found}
use Rattle.hits_core.specs.declared.games.Game.{Game}
use Rattle.hits_core.specs.declared.searches.Sought.{Sought}
use Rattle.hits_core.specs.declared.searches.Sought.TheVariants as sought
use Rattle.hits_core.specs.Hits.{hits_of_turn}
use Rattle.hits_core.specs.Turns.{turn_of, number_after, HasTurns}
use Rattle.hits_core.specs.Wanted.{wanted_at}
use Rattle.hits_core.specs.Inner.Finding.{hit_in, moment_on, GrowsBy, AddsGame, IsFront}
use Rattle.hits_core.specs.Inner.Watching.{hits_over}
use Rattle.hits_core.proofs.Growing.{grows-none, grows-on}

-- the hits of a move onto an empty point, where patterns are looked for that were played
pub played-move : (words : List ℕ) (game : Game) (position : Position) (size : Extent) (number : ℕ) (mover : Colour) (at : Point) →
    size ≡ game.recorded.size → is_empty (position at) ≡ true →
    map (hit_in (moment_on game number mover) at) (wanted_at words size position mover at)
    ≡ flat_map (hits_of_turn sought.Played words game) (map (turn_of number) (occasion_of position (action.Move mover at)))
played-move words game position size number mover at sized empty =
    let one = λ (s : Extent). map (hit_in (moment_on game number mover) at) (wanted_at words s position mover at) in
    ap one sized
    ∙ sym (append-nil (one game.recorded.size))
    ∙ sym (append-nil (one game.recorded.size ++ []))
    ∙ ap (λ b. flat_map (hits_of_turn sought.Played words game) (map (turn_of number) (cond b (record { position = position; mover = mover; at = at } ∷ []) []))) (sym empty)

-- the same where patterns are looked for that were there
pub there-move : (words : List ℕ) (game : Game) (field : Kept) (number : ℕ) (mover : Colour) (at : Point) →
    field.board.size ≡ game.recorded.size → is_empty (position_of field.board at) ≡ true →
    hits_over words field (moment_on game number mover) (points_of field.board.size)
    ≡ flat_map (hits_of_turn sought.There words game) (map (turn_of number) (occasion_of (position_of field.board) (action.Move mover at)))
there-move words game field number mover at sized empty =
    let position = position_of field.board in
    let all = λ (s : Extent). flat_map (λ (q : Point). map (hit_in (moment_on game number mover) q) (wanted_at words s position mover q))
    (filter (λ (q : Point). is_empty (position q)) (points_of s)) in
    ap all sized
    ∙ sym (append-nil (all game.recorded.size))
    ∙ ap (λ b. flat_map (hits_of_turn sought.There words game) (map (turn_of number) (cond b (record { position = position; mover = mover; at = at } ∷ []) []))) (sym empty)

-- before the first action
pub front-begins : (what : Sought) (words : List ℕ) (game : Game) (all : List Action) (start : Position) (found : Found) → all ≡ game.recorded.actions →
    IsFront what words game start start all 1 found found
front-begins what words game all start found same = record {
  done = [];
  others = λ others h. subst (λ actions. HasTurns game.recorded.size actions 1 start others) same h;
  grown = grows-none found;
}

-- one action more was done
pub front-steps : (what : Sought) (words : List ℕ) (game : Game) (all : List Action) (start before after : Position) (i : ℕ) (none : Action) (number : ℕ) (a b c : Found) → i < length all →
    Does game.recorded.size (get_or all i none) before after → IsFront what words game start before (drop i all) number a b →
    GrowsBy b c (flat_map (hits_of_turn what words game) (map (turn_of number) (occasion_of before (get_or all i none)))) →
    IsFront what words game start after (drop (i + 1) all) (number_after number (get_or all i none)) a c
front-steps what words game all start before after i none number a b c inside does front grown =
    let act = get_or all i none in
    let here = map (turn_of number) (occasion_of before act) in
    let hits = flat_map (hits_of_turn what words game) in
    record {
      done = front.done ++ here;
      others = λ others h.
          let parted : act ∷ drop (i + 1) all ≡ drop i all = ap (λ k. act ∷ drop k all) (add-one i) ∙ sym (drop-cons all i none inside) in
          subst (HasTurns game.recorded.size game.recorded.actions 1 start) (sym (append_assoc front.done here others))
          (front.others (here ++ others) (subst (λ left. HasTurns game.recorded.size left number before (here ++ others)) parted (after, others, does, h, refl)));
      grown = subst (GrowsBy a c) (sym (flat_map-append (hits_of_turn what words game) front.done here))
          (grows-on a b c (hits front.done) (hits here) front.grown grown);
    }

-- all actions were done
pub front-ends : (what : Sought) (words : List ℕ) (game : Game) (start now : Position) (left : List Action) (number : ℕ) (a b : Found) → AreSame game.recorded.size start empty_position → left ≡ [] →
    IsFront what words game start now left number a b → AddsGame what words game a b
front-ends what words game start now left number a b empty none front =
    let turns = front.others [] (subst (λ actions. HasTurns game.recorded.size actions number now []) (sym none) refl) in
    record {
      hits = flat_map (hits_of_turn what words game) front.done;
      of_game = record {
        turns = front.done;
        are_turns = record { start = start; empty = empty; replayed = subst (HasTurns game.recorded.size game.recorded.actions 1 start) (append-nil front.done) turns };
        each = refl;
      };
      grown = front.grown;
    }

pub number-grows : (number : ℕ) (act : Action) → number_after number act ≤ number + 1
number-grows number (action.Set low high stone) = omega arith
number-grows number (action.Move mover at) = omega arith
number-grows number (action.Pass mover) = omega arith
