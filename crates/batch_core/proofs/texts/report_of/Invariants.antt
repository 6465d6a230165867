use Rattle.std.proofs.Common.{◌≡◌, ◌^◌, ◌-◌}
use Rattle.batch_core.proofs.texts.report_of.Given as goal

abbrev pub invariant-loop : goal.invariant-loop
invariant-loop l = l.games.bytes ≡ l.text

-- each turn reads a game, and an input has at most 2 ^ 28 of them
abbrev pub decreases-loop : goal.decreases-loop
decreases-loop l = 2 ^ 28 - l.games.report.games
