use Rattle.std.proofs.Common.{◌≡◌, ◌<◌, length, take}
use Rattle.slot_table.specs.Passes.{IsPassOf, IsAlone}
use Rattle.slot_table.specs.Batches.{AreMade}
use Rattle.slot_table.specs.Inner.Batches.{AreLooked, ended}
use Rattle.slot_table.proofs.tables.SlotTable.look_first.Given as goal

-- the keys so far were looked at
abbrev pub invariant-loop-i : goal.invariant-loop-i
invariant-loop-i g l =
    let n = l.self.slots in
    let place = g.O.ProbeOrder.place_of l.self.order in
    record {
      pass : IsPassOf l.self l.pass;
      long : length l.looks ≡ length l.fn.looks;
      made : AreMade n (ended n place (take l.i l.keys) l.looks) l.fn.pass l.pass;
      alone : 0 < l.i → IsAlone l.pass;
      looked : AreLooked n place l.pass.seen l.keys l.looks l.i;
    }
