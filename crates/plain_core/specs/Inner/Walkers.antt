-- Games that were walked and are to be counted after that.
use Rattle.std.specs.Prelude.{◌+◌, ◌*◌, ◌≤◌, length}
use Rattle.game_core.specs.Games.{IsGameOf}
use Rattle.game_core.specs.Reading.{Reading, IsNextGame}
use Rattle.shape_core.specs.declared.words.Kinds.{Kinds}
use Rattle.tally_core.specs.Walk.{IsWalk, IsAmong, IsSmall}
use Rattle.plain_core.specs.declared.walkers.WalkedGame.{WalkedGame}

-- a game of an input was walked, and this is what it met
pub record IsWalked (kinds : Kinds) (walked : WalkedGame) : Type 0 where
  pub game : IsGameOf walked.job.bytes walked.job.game walked.job.at walked.job.end walked.job.actions
  pub walk : IsWalk kinds walked.job.actions walked.meetings.items walked.moves
  pub among : IsAmong walked.meetings.items
  pub small : IsSmall (5410 * length walked.job.actions.actions) walked.meetings.items
  pub few : walked.moves ≤ length walked.job.actions.actions
  pub fits : walked.job.at + length walked.job.actions.actions ≤ walked.job.end
  pub in_input : walked.job.end ≤ length walked.job.bytes

-- the next game of an input was read and walked
pub record IsNextWalked (kinds : Kinds) (before after : Reading) (walked : WalkedGame) : Type 0 where
  pub next : IsNextGame before after walked.job
  pub is : IsWalked kinds walked
