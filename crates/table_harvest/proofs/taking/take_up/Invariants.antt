use Rattle.std.proofs.Common.{◌≡◌, length}
use Rattle.std.specs.Vec.Iter.{into_iter_items, into_iter_len}
use Rattle.table_harvest.specs.Inner.Threads.{HasTaken}
use Rattle.table_harvest.proofs.taking.take_up.Given as goal

-- what came back so far is taken up
abbrev pub invariant-loop-back : goal.invariant-loop-back
invariant-loop-back g l = record {
  taken : HasTaken l.fn.own l.fn.all.items (into_iter_items l.back-iterator) l.own l.worked.items;
  long : into_iter_len l.back-iterator ≡ length (into_iter_items l.back-iterator);
}
