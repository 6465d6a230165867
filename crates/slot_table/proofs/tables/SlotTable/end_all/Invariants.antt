use Rattle.std.proofs.Common.{◌≡◌, ◌<◌, ◌++◌, ℕ, length, take, drop, slice_index, true}
use Rattle.slot_table.specs.Passes.{IsPassOf, IsAlone, Known}
use Rattle.slot_table.specs.Batches.{AreMade, IsTold, answer_at, entered, IsFullBefore, AreEnteredUntil}
use Rattle.slot_table.specs.Inner.Batches.{AreLooked, ended}
use Rattle.slot_table.proofs.tables.SlotTable.end_all.Given as goal

-- the keys so far have their answers, and the looks of the others still tell
abbrev pub invariant-loop-i : goal.invariant-loop-i
invariant-loop-i g l =
    let n = l.self.slots in
    let place = g.O.ProbeOrder.place_of l.self.order in
    record {
      pass : IsPassOf l.self l.pass;
      long : length l.answers ≡ length l.keys;
      made : (first : Known _) → AreMade n (ended n place l.keys l.looks) first l.fn.pass
          → AreMade n (entered (take l.i l.keys) l.answers ++ ended n place (drop l.i l.keys) (drop l.i l.looks)) first l.pass;
      alone : IsAlone l.fn.pass → IsAlone l.pass;
      looked : AreLooked n place l.pass.seen l.keys l.looks (length l.keys);
      told : (i : ℕ) → i < l.i → IsTold n l.pass.seen (slice_index l.keys i) (answer_at l.answers i);
      until : AreEnteredUntil l.answers l.i;
      full : l.full ≡ true → IsFullBefore l.answers l.i;
    }
