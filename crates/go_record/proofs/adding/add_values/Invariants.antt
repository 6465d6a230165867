use Rattle.std.proofs.Common.{◌≡◌, ◌+◌, ◌≤◌, length, All, map, drop}
use Rattle.sgf_core.specs.Values.{value_of}
use Rattle.go_record.specs.Actions.{IsActionOn}
use Rattle.go_record.specs.Adding.{actions_before_fault}
use Rattle.go_record.specs.Inner.Adding.{behind, action_of}
use Rattle.go_record.specs.Record.{collected}
use Rattle.go_record.proofs.adding.add_values.Given as goal

abbrev pub invariant-loop-value : goal.invariant-loop-value
invariant-loop-value l = record {
  on_board : All (IsActionOn l.size) l.actions.items;
  grown : length l.fn.actions.items ≤ length l.actions.items;
  counted : length l.actions.items + actions_before_fault (map (λ v. action_of l.size l.deed (value_of v)) (drop l.value-index l.values))
      ≡ length l.fn.actions.items + actions_before_fault (map (λ v. action_of l.size l.deed (value_of v)) l.values);
  left : behind l.actions.items (collected (map (λ v. action_of l.size l.deed (value_of v)) (drop l.value-index l.values)))
      ≡ behind l.fn.actions.items (collected (map (λ v. action_of l.size l.deed (value_of v)) l.values));
}
