use Rattle.std.proofs.Common.{◌≡◌, ◌∷◌, take}
use Rattle.twins_core.specs.Codes.{actions_code}
use Rattle.twins_core.proofs.codes.code_of.Given as goal

abbrev pub invariant-loop-action : goal.invariant-loop-action
invariant-loop-action l = l.code.items ≡ l.game.size.columns ∷ l.game.size.rows ∷ actions_code (take l.action-index l.actions)
