use Rattle.std.proofs.Common.{◌≡◌, ◌+◌, ◌^◌, ◌≤◌, length, take, drop}
use Rattle.probe_core.specs.World.{after_events}
use Rattle.probe_core.specs.Inner.Hall.{world_of, IsFitted, HasRoom}
use Rattle.probe_core.proofs.worlds.World.run.Given as goal

abbrev pub invariant-loop-event : goal.invariant-loop-event
invariant-loop-event g l = record {
  same_order : l.self-inside.hall.order ≡ l.fn.self.order;
  fitted : IsFitted g.O.ProbeOrder.exponent l.self-inside.hall;
  ran : world_of l.self-inside.hall ≡
      after_events (2 ^ g.O.ProbeOrder.exponent l.fn.self.order) (g.O.ProbeOrder.place_of l.fn.self.order) l.fn.self.world (take l.event-index l.events);
  room : HasRoom l.self-inside.hall (drop l.event-index l.events);
  counted : l.self-inside.hall.events ≡ l.fn.self.world.events + l.event-index;
  few : l.fn.self.world.events + length l.events ≤ 2 ^ 62;
}
