use Rattle.std.proofs.Common.{take}
use Rattle.hits_core.proofs.Joining.{HasFound}
use Rattle.hits_core.proofs.finding.find_in.Given as goal

abbrev pub invariant-loop-game : goal.invariant-loop-game
invariant-loop-game l = HasFound l.sought l.wanted l.initial.found.most (take l.game-index l.games) l.found
