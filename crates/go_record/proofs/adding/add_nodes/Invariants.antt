use Rattle.std.proofs.Common.{◌≡◌, ◌+◌, ◌≤◌, length, All}
use Rattle.std.specs.List.{flat_map}
use Rattle.go_record.specs.Actions.{IsActionOn}
use Rattle.go_record.specs.Adding.{actions_before_fault}
use Rattle.go_record.specs.Inner.Adding.{behind}
use Rattle.go_record.specs.Record.{collected, node_deeds}
use Rattle.go_record.proofs.adding.add_nodes.Given as goal

abbrev pub invariant-loop-node : goal.invariant-loop-node
invariant-loop-node l = record {
  can_next : (goal.iterator-loop-node).can_next l.node-iterator;
  is_finite : (goal.iterator-loop-node).is_finite l.node-iterator;
  on_board : All (IsActionOn l.size) l.actions.items;
  grown : length l.fn.actions.items ≤ length l.actions.items;
  counted : length l.actions.items + actions_before_fault (flat_map (node_deeds l.size) l.node-iterator)
      ≡ length l.fn.actions.items + actions_before_fault (flat_map (node_deeds l.size) l.fn.line);
  left : behind l.actions.items (collected (flat_map (node_deeds l.size) l.node-iterator))
      ≡ behind l.fn.actions.items (collected (flat_map (node_deeds l.size) l.fn.line));
}
