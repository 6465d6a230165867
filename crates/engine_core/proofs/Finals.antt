-- The position that a game ends in.
use Rattle.std.proofs.Common.{◌≡◌, List, subst}
use Rattle.go_board.specs.Extent.{Extent}
use Rattle.go_board.specs.Position.{Position}
use Rattle.go_record.specs.Actions.{Actions}
use Rattle.go_record.specs.Replay.{empty_position, Replays}
use Rattle.go_board.specs.Position.{AreSame}
use Rattle.go_record.specs.declared.actions.Action.{Action}
use Rattle.engine_core.specs.Boards.{IsFinal}

pub final_of : (game : Actions) (size : Extent) (actions : List Action) (start final : Position) → size ≡ game.size → actions ≡ game.actions →
    AreSame game.size start empty_position → Replays size actions start final → IsFinal game final
final_of game size actions start final same_size same empty replays = record {
  start = start;
  empty = empty;
  replayed = subst (λ s. Replays s game.actions start final) same_size (subst (λ all. Replays size all start final) same replays);
}
