use Rattle.std.proofs.Common.{◌≡◌, ◌^◌}
use Rattle.probe_core.specs.Machine.{left_of}
use Rattle.slot_table.specs.Telling.{IsSeatOf, IsSearch}
use Rattle.slot_table.proofs.Searching.{Went}
use Rattle.slot_table.proofs.steps.run.Given as goal

abbrev pub ghosts-turn : goal.ghosts-turn
ghosts-turn g a = record { machine = a.probe.machine }

abbrev pub invariant-loop-next : goal.invariant-loop-next
invariant-loop-next g l = record {
  seat : IsSeatOf (2 ^ g.O.ProbeOrder.exponent l.shared.key) l.shared.table_id l.shared.key l.seat.table_id l.seat.me;
  order : l.probe.order ≡ l.shared.key;
  call : l.probe.machine.call ≡ l.fn.probe.machine.call;
  search : IsSearch (2 ^ g.O.ProbeOrder.exponent l.shared.key) (g.O.ProbeOrder.place_of l.shared.key) l.probe.machine l.seat.me.0.seen;
  went : Went l.initial.seat.me.0 l.seat.me.0;
}

abbrev pub decreases-loop-next : goal.decreases-loop-next
decreases-loop-next g l = left_of (2 ^ g.O.ProbeOrder.exponent l.shared.key) l.probe.machine
