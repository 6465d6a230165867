use Rattle.std.proofs.Common.{◌≡◌, length}
use Rattle.std.specs.Vec.Iter.{into_iter_items, into_iter_len}
use Rattle.harvest_core.specs.Inner.Threads.{HasTaken}
use Rattle.harvest_core.proofs.threads.take_up.Given as goal

-- what came back so far is taken up
abbrev pub invariant-loop-back : goal.invariant-loop-back
invariant-loop-back l = record {
  taken : HasTaken l.fn.shared l.fn.endpoint (length l.fn.all.items) (into_iter_items l.back-iterator) l.endpoint l.shares.items;
  long : into_iter_len l.back-iterator ≡ length (into_iter_items l.back-iterator);
}
