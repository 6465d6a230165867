-- A game has one number of occasions.
use Rattle.std.proofs.Common.{◌≡◌, Bool, true, false, cond, List, [], ◌∷◌, length, All, refl, ap, sym, ◌∙◌, arith, length-append}
use Rattle.std.proofs.lemmas.List.Elements.{All-nil, All-cons, All-head, All-tail}
use Rattle.go_board.specs.Extent.{Extent}
use Rattle.go_board.specs.Position.{Position, AreSame}
use Rattle.go_record.specs.Actions.{Actions, IsActionOn, AreOnBoard}
use Rattle.go_record.specs.Replay.{Does, Replays}
use Rattle.go_record.specs.declared.actions.Action.{Action}
use Rattle.go_record.specs.declared.actions.Action.TheVariants as action
use Rattle.tally_core.specs.Occasions.{Occasion, is_empty, occasion_of, HasOccasions, AreOccasions}

-- the law that a replay has one result
abbrev pub HaveOneResult : Type 0
HaveOneResult =
    (size : Extent) (actions : List Action) (before again first second : Position) → All (IsActionOn size) actions → AreSame size before again →
    Replays size actions before first → Replays size actions again second → AreSame size first second

module _ (one_result : HaveOneResult) where
  -- the same of one action
  does_one : (size : Extent) (a : Action) (before again first second : Position) → IsActionOn size a → AreSame size before again →
      Does size a before first → Does size a again second → AreSame size first second
  does_one size a before again first second on same p s =
      one_result size (a ∷ []) before again first second (All-cons (IsActionOn size) a [] on (All-nil (IsActionOn size))) same
      (first, p, λ q q_on. refl) (second, s, λ q q_on. refl)

  same_number : (size : Extent) (a : Action) (before again : Position) → IsActionOn size a → AreSame size before again → length (occasion_of before a) ≡ length (occasion_of again a)
  same_number size (action.Set low high stone) before again on same = refl
  same_number size (action.Pass colour) before again on same = refl
  same_number size (action.Move colour at) before again on same =
      by_test (is_empty (before at)) (is_empty (again at)) (ap is_empty (same at on))
    where
      one : Position → Occasion
      one position = record { position = position; mover = colour; at = at }

      by_test : (b d : Bool) → b ≡ d → length (cond b (one before ∷ []) []) ≡ length (cond d (one again ∷ []) [])
      by_test true true e = refl
      by_test false false e = refl
      by_test true false e = absurd (cc)
      by_test false true e = absurd (cc)

  number_one : (size : Extent) (actions : List Action) (before again : Position) (occasions others : List Occasion) → All (IsActionOn size) actions → AreSame size before again →
      HasOccasions size actions before occasions → HasOccasions size actions again others → length occasions ≡ length others
  number_one size [] before again occasions others on same h k = ap length h ∙ sym (ap length k)
  number_one size (a ∷ actions) before again occasions others on same h k =
      let now = All-head (IsActionOn size) a actions on in
      let rest = number_one size actions h.0 k.0 h.1 k.1 (All-tail (IsActionOn size) a actions on) (does_one size a before again h.0 k.0 now same h.2 k.2) h.3 k.3 in
      omega (
        arith,
        ap length h.4,
        ap length k.4,
        length-append (occasion_of before a) h.1,
        length-append (occasion_of again a) k.1,
        same_number size a before again now same,
        rest,
      )

  pub one_number : (game : Actions) (occasions others : List Occasion) → AreOnBoard game → AreOccasions game occasions → AreOccasions game others → length occasions ≡ length others
  one_number game occasions others on h k =
      number_one game.size game.actions h.start k.start occasions others on (λ q q_on. h.empty q q_on ∙ sym (k.empty q q_on)) h.replayed k.replayed
