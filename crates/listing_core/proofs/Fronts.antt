-- The occasions of a game, one action after another.
use Rattle.std.proofs.Common.{◌≡◌, ℕ, ◌+◌, ◌<◌, ◌++◌, List, [], ◌∷◌, length, drop, get_or, refl, ap, sym, subst, ◌∙◌, arith, add-one, zero-add, drop-cons, length-append}
use Rattle.go_board.specs.Extent.{Extent}
use Rattle.go_board.specs.Position.{Position, AreSame}
use Rattle.go_record.specs.Actions.{Actions}
use Rattle.go_record.specs.Replay.{Does, empty_position}
use Rattle.go_record.specs.declared.actions.Action.{Action}
use Rattle.tally_core.specs.Occasions.{occasion_of, HasOccasions}
use Rattle.listing_core.specs.Games.{HasOccasionNumber}
use Rattle.listing_core.specs.Inner.Fronts.{occasions_of, HasNumberFrom}

-- what the actions from a place on have, and `number` more, is what all of them have
abbrev pub Completes : Extent → List Action → Position → ℕ → Position → ℕ → Type 0
Completes size all start i now number =
    (rest : ℕ) → HasNumberFrom size (drop i all) now rest → HasNumberFrom size all start (number + rest)

pub completes-begins : (size : Extent) (all : List Action) (start : Position) → Completes size all start 0 start 0
completes-begins size all start rest h = subst (HasNumberFrom size all start) (sym (zero-add rest)) h

first_more : (size : Extent) (action : Action) (actions : List Action) (before after : Position) (rest : ℕ) → Does size action before after →
    HasNumberFrom size actions after rest → HasNumberFrom size (action ∷ actions) before (occasions_of before action + rest)
first_more size action actions before after rest does h = record {
  occasions = occasion_of before action ++ h.occasions;
  replayed = (after, h.occasions, does, h.replayed, refl);
  counted = omega (arith, length-append (occasion_of before action) h.occasions, h.counted);
}

-- one action more was done
pub completes-steps : (size : Extent) (all : List Action) (start : Position) (i : ℕ) (d : Action) (before after : Position) (number : ℕ) → i < length all →
    Does size (get_or all i d) before after → Completes size all start i before number → Completes size all start (i + 1) after (number + occasions_of before (get_or all i d))
completes-steps size all start i d before after number inside does h rest more =
    let action = get_or all i d in
    let split : drop i all ≡ action ∷ drop (i + 1) all = drop-cons all i d inside ∙ ap (λ k. action ∷ drop k all) (sym (add-one i)) in
    subst (HasNumberFrom size all start) (omega arith)
    (h (occasions_of before action + rest)
    (subst (λ actions. HasNumberFrom size actions before (occasions_of before action + rest)) (sym split) (first_more size action (drop (i + 1) all) before after rest does more)))

-- no action is left
pub completes-ends : (size : Extent) (all : List Action) (start : Position) (i : ℕ) (now : Position) (number : ℕ) → drop i all ≡ [] → Completes size all start i now number → HasNumberFrom size all start number
completes-ends size all start i now number none h =
    subst (HasNumberFrom size all start) (omega arith)
    (h 0 (subst (λ actions. HasNumberFrom size actions now 0) (sym none) (record { occasions = []; replayed = refl; counted = refl })))

-- what a whole game has, from an empty board on
pub of_game : (game : Actions) (size : Extent) (actions : List Action) (start : Position) (number : ℕ) → size ≡ game.size → actions ≡ game.actions →
    AreSame game.size start empty_position → HasNumberFrom size actions start number → HasOccasionNumber game number
of_game game size actions start number same_size same empty h = record {
  occasions = h.occasions;
  replayed = record {
    start = start;
    empty = empty;
    replayed = subst (λ s. HasOccasions s game.actions start h.occasions) same_size (subst (λ all. HasOccasions size all start h.occasions) same h.replayed);
  };
  counted = h.counted;
}
