use Rattle.std.proofs.Common.{length, arith}
use Rattle.slot_table.proofs.tables.SlotTable.look_at_all.Goals as goal

pub loop-init : goal.loop-init
loop-init g c = record {
  pass = c.look_first.ensures.pass;
  long = c.look_first.ensures.length;
  made = c.look_first.ensures.made;
  alone = c.look_first.ensures.alone;
  looked = c.look_first.ensures.looked;
  room = c.all_places-left.ensures.length;
  few = omega (arith, c.all_places-left.ensures.length, c.requires.block);
  chosen = c.all_places-left.ensures.chosen (length c.args.keys.now) c.requires.block;
}
