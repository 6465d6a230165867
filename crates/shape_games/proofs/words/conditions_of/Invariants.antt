use Rattle.std.proofs.Common.{◌≡◌, map, drop}
use Rattle.shape_games.proofs.Asked.{Completes, bytes_of}
use Rattle.shape_games.proofs.words.conditions_of.Given as goal

abbrev pub invariant-loop-text : goal.invariant-loop-text
invariant-loop-text l = Completes (bytes_of l.texts) (bytes_of (drop l.text-index l.texts)) l.conditions.items
