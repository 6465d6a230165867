use Rattle.std.proofs.Common.{take}
use Rattle.go_board.specs.Position.{Position}
use Rattle.shape_core.specs.Field.{MarksNear, reach_of}
use Rattle.shape_core.specs.Inner.KeptLists.{emptied}
use Rattle.shape_core.specs.Inner.Keeping.{HasRoom, Follows, Changes}
use Rattle.shape_core.proofs.kept.KeptWords.empty.Given as goal

abbrev pub invariant-loop-point : goal.invariant-loop-point
invariant-loop-point l = record {
  room : HasRoom l.self;
  change : Changes l.initial.self l.self;
  near : MarksNear (reach_of l.initial.self.kinds) (take l.point-index l.points) l.initial.self.changed.items l.self.changed.items;
  follow : (position : Position) → Follows l.initial.self position → Follows l.self (emptied position (take l.point-index l.points));
}
