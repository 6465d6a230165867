use Rattle.std.proofs.Common.{◌≡◌, ◌+◌, ◌≤◌, length, All}
use Rattle.std.specs.List.{flat_map}
use Rattle.go_record.specs.Actions.{IsActionOn}
use Rattle.go_record.specs.Adding.{actions_before_fault}
use Rattle.go_record.specs.Inner.Adding.{behind, round_deeds}
use Rattle.go_record.specs.Record.{collected}
use Rattle.go_record.proofs.adding.add_round.Given as goal

abbrev pub invariant-loop-prop : goal.invariant-loop-prop
invariant-loop-prop l = record {
  can_next : (goal.iterator-loop-prop).can_next l.prop-iterator;
  is_finite : (goal.iterator-loop-prop).is_finite l.prop-iterator;
  on_board : All (IsActionOn l.size) l.actions.items;
  grown : length l.fn.actions.items ≤ length l.actions.items;
  counted : length l.actions.items + actions_before_fault (flat_map (round_deeds l.size l.round) l.prop-iterator)
      ≡ length l.fn.actions.items + actions_before_fault (flat_map (round_deeds l.size l.round) l.node);
  left : behind l.actions.items (collected (flat_map (round_deeds l.size l.round) l.prop-iterator))
      ≡ behind l.fn.actions.items (collected (flat_map (round_deeds l.size l.round) l.node));
}
