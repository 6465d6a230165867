use Rattle.std.proofs.Common.{◌≡◌, length}
use Rattle.slot_table.specs.Passes.{IsPassOf, IsAlone, Known}
use Rattle.slot_table.specs.Batches.{AreMade}
use Rattle.slot_table.specs.Inner.Batches.{AreLooked, ArePassed, ended}
use Rattle.slot_table.proofs.tables.SlotTable.look_again.Given as goal

-- the keys at the places so far were looked at again
abbrev pub invariant-loop-i : goal.invariant-loop-i
invariant-loop-i g l =
    let n = l.self.slots in
    let place = g.O.ProbeOrder.place_of l.self.order in
    record {
      pass : IsPassOf l.self l.pass;
      long : length l.looks ≡ length l.fn.looks;
      made : (first : Known _) → AreMade n (ended n place l.keys l.fn.looks) first l.fn.pass → AreMade n (ended n place l.keys l.looks) first l.pass;
      alone : IsAlone l.fn.pass → IsAlone l.pass;
      looked : AreLooked n place l.pass.seen l.keys l.looks (length l.keys);
      passed : ArePassed n l.keys l.looks l.left l.i l.count;
    }
