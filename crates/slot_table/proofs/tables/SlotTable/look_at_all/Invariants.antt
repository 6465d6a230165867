use Rattle.std.proofs.Common.{◌≡◌, ◌<◌, ◌≤◌, length}
use Rattle.slot_table.specs.Passes.{IsPassOf, IsAlone}
use Rattle.slot_table.specs.Batches.{AreMade}
use Rattle.slot_table.specs.Inner.Batches.{AreLooked, AreChosen, ended}
use Rattle.slot_table.proofs.tables.SlotTable.look_at_all.Given as goal

-- all keys were looked at, and some places are left
abbrev pub invariant-loop : goal.invariant-loop
invariant-loop g l =
    let n = l.self.slots in
    let place = g.O.ProbeOrder.place_of l.self.order in
    record {
      pass : IsPassOf l.self l.pass;
      long : length l.looks ≡ length l.fn.looks;
      made : AreMade n (ended n place l.keys l.looks) l.fn.pass l.pass;
      alone : 0 < length l.keys → IsAlone l.pass;
      looked : AreLooked n place l.pass.seen l.keys l.looks (length l.keys);
      room : length l.left ≡ 128;
      few : l.count ≤ length l.left;
      chosen : AreChosen (length l.keys) l.left l.count;
    }
