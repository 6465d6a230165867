-- A game that is counted by its walk.
use Rattle.std.proofs.Common.{◌≡◌, ℕ, ◌+◌, ◌*◌, ◌≤◌, List, Option, ap, ◌∙◌, arith}
use Rattle.std.specs.List.{flat_map}
use Rattle.go_record.specs.Actions.{Actions}
use Rattle.shape_core.specs.declared.words.Kinds.{Kinds}
use Rattle.tally_core.specs.Counts.{kinds_of, patterns_there, patterns_played}
use Rattle.tally_core.specs.Walk.{there_among, played_among, IsWalk, IsAmong, IsSmall}
use Rattle.tally_core.specs.Inner.Times.{times_in}
use Rattle.tally_core.specs.declared.meetings.Meeting.{Meeting}
use Rattle.plain_core.specs.Inner.Count.{Count}
use Rattle.plain_core.specs.Inner.Counter.{used_again, used, uses_at, CountsMeetings, CountsGame}
use Rattle.plain_core.proofs.Used.{again-uses}

pub counts-walked : (kinds : Kinds) (game : Actions) (number : Option ℕ) (before after : ℕ → Option Count) (meetings : List Meeting) (moves : ℕ) →
    IsWalk kinds game meetings moves → IsAmong meetings → CountsMeetings number meetings before after → CountsGame kinds game number before after moves
counts-walked kinds game number before after meetings moves walked among counted =
    let there = flat_map (patterns_there (kinds_of kinds) game.size) walked.occasions in
    let played = flat_map (patterns_played (kinds_of kinds) game.size) walked.occasions in
    record {
      occasions = walked.occasions;
      replayed = walked.replayed;
      moves_counted = walked.moves_counted;
      counted = λ shape.
          counted shape
          ∙ ap (λ n. used_again number n (played_among meetings shape) (before shape)) (walked.there shape)
          ∙ ap (λ n. used_again number (times_in there shape) n (before shape)) (walked.played shape);
      among = λ shape. omega (arith, among shape, walked.there shape, walked.played shape);
    }

-- how much counts grow by the meetings of a game
pub meetings-grow : (number : Option ℕ) (most : ℕ) (meetings : List Meeting) (before : ℕ → Option Count) (shape : ℕ) → IsSmall most meetings →
    uses_at (used number (there_among meetings) (played_among meetings) before shape) ≤ uses_at (before shape) + most
meetings-grow number most meetings before shape small =
    omega (arith, small shape, again-uses number (there_among meetings shape) (played_among meetings shape) (before shape))
