use Rattle.std.proofs.Common.{◌≡◌, ◌^◌}
use Rattle.probe_core.specs.declared.calls.Call.TheVariants as call
use Rattle.probe_core.specs.Machine.{left_of}
use Rattle.probe_core.specs.Placing.{IsOrderly}
use Rattle.probe_core.specs.Showing.{table_of}
use Rattle.probe_core.specs.Way.{IsOnWay}
use Rattle.probe_core.proofs.solo.SoloTable.enter.Given as goal

abbrev pub invariant-loop-next : goal.invariant-loop-next
invariant-loop-next g l = record {
  same_order : l.probe.order ≡ l.fn.self.order;
  kept_order : l.self-inside.order ≡ l.fn.self.order;
  same_call : l.probe.machine.call ≡ call.Enter l.fn.key;
  same_table : table_of l.self-inside.words.items ≡ l.fn.self.table;
  orderly : IsOrderly (2 ^ g.O.ProbeOrder.exponent l.fn.self.order) (g.O.ProbeOrder.place_of l.fn.self.order) l.self-inside.words.items;
  on_way : IsOnWay (2 ^ g.O.ProbeOrder.exponent l.fn.self.order) (g.O.ProbeOrder.place_of l.fn.self.order) l.self-inside.words.items l.probe.machine;
}

abbrev pub decreases-loop-next : goal.decreases-loop-next
decreases-loop-next g l = left_of (2 ^ g.O.ProbeOrder.exponent l.probe.order) l.probe.machine
