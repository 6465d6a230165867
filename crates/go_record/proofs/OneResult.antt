-- A replay has one result.
use Rattle.std.proofs.Common.{◌∙◌, List, [], ◌∷◌, All, sym, ap, if◌then◌else◌}
use Rattle.std.proofs.lemmas.List.Elements.{All-head, All-tail}
use Rattle.go_board.specs.Extent.{Extent}
use Rattle.go_board.specs.Position.{Position, AreSame}
use Rattle.go_board.proofs.Agreement.{Plays-one}
use Rattle.go_record.specs.Actions.{IsActionOn}
use Rattle.go_record.specs.Replay.{Does, Replays, is_within}
use Rattle.go_record.specs.declared.actions.Action.{Action}
use Rattle.go_record.specs.declared.actions.Action.TheVariants as action

does_one : (size : Extent) (a : Action) (before again first second : Position) → IsActionOn size a → AreSame size before again → Does size a before first → Does size a again second → AreSame size first second
does_one size (action.Set low high stone) before again first second on same p s = λ q q_on.
    p q q_on ∙ ap (λ x. if is_within low high q then stone else x) (same q q_on) ∙ sym (s q q_on)
does_one size (action.Move colour at) before again first second on same p s = Plays-one size before again colour at first second on same p s
does_one size (action.Pass colour) before again first second on same p s = λ q q_on. p q q_on ∙ same q q_on ∙ sym (s q q_on)

pub replays_one : (size : Extent) (actions : List Action) (before again first second : Position) → All (IsActionOn size) actions → AreSame size before again → Replays size actions before first → Replays size actions again second → AreSame size first second
replays_one size [] before again first second on same p s = λ q q_on. p q q_on ∙ same q q_on ∙ sym (s q q_on)
replays_one size (a ∷ actions) before again first second on same p s =
    replays_one size actions p.0 s.0 first second (All-tail (IsActionOn size) a actions on) (does_one size a before again p.0 s.0 (All-head (IsActionOn size) a actions on) same p.1 s.1) p.2 s.2
