use Rattle.std.proofs.Common.{◌≡◌, ◌++◌, None, take}
use Rattle.hits_core.specs.Sgf.{actions_text}
use Rattle.hits_core.proofs.Cutting.{last_of}
use Rattle.hits_core.proofs.sgf.push_actions.Given as goal

abbrev pub invariant-loop-action : goal.invariant-loop-action
invariant-loop-action l = record {
  text : l.text.items ≡ l.fn.text.items ++ actions_text None (take l.action-index l.actions);
  before : l.before ≡ last_of None (take l.action-index l.actions);
}
