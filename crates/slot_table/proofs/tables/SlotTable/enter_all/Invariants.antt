use Rattle.std.proofs.Common.{◌≡◌, ◌-◌, ◌<◌, ◌≤◌, true, length, take}
use Rattle.slot_table.specs.Passes.{IsPassOf, IsAlone}
use Rattle.slot_table.specs.Batches.{AreMade, AreTold, IsFullBefore, AreEnteredUntil, entered}
use Rattle.slot_table.proofs.tables.SlotTable.enter_all.Given as goal

-- the keys before `start` are entered
abbrev pub invariant-loop-start : goal.invariant-loop-start
invariant-loop-start g l =
    let n = l.self.slots in
    record {
      pass : IsPassOf l.self l.pass;
      within : l.start ≤ length l.keys;
      long : length l.answers ≡ length l.keys;
      made : AreMade n (entered (take l.start l.keys) (take l.start l.answers)) l.fn.pass l.pass;
      alone : 0 < l.start → IsAlone l.pass;
      told : AreTold n l.pass.seen (take l.start l.keys) (take l.start l.answers);
      until : AreEnteredUntil (take l.start l.answers) l.start;
      full : l.full ≡ true → IsFullBefore (take l.start l.answers) l.start;
    }

abbrev pub decreases-loop-start : goal.decreases-loop-start
decreases-loop-start g l = length l.keys - l.start
