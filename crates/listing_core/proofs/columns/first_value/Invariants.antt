use Rattle.std.proofs.Common.{◌≡◌}
use Rattle.go_record.specs.Record.{first_value}
use Rattle.listing_core.proofs.columns.first_value.Given as goal

abbrev pub invariant-loop-prop : goal.invariant-loop-prop
invariant-loop-prop l = record {
  can_next : (goal.iterator-loop-prop).can_next l.prop-iterator;
  is_finite : (goal.iterator-loop-prop).is_finite l.prop-iterator;
  left : first_value l.name l.prop-iterator ≡ first_value l.name l.node;
}
