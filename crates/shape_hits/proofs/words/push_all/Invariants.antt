use Rattle.std.proofs.Common.{◌≡◌, ◌++◌, take}
use Rattle.shape_hits.proofs.words.push_all.Given as goal

abbrev pub invariant-loop-other : goal.invariant-loop-other
invariant-loop-other l = l.names.items ≡ l.fn.names.items ++ take l.other-index l.others
