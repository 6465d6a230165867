use Rattle.shape_merge.specs.Files.{AreFreeBelow}
use Rattle.shape_merge.proofs.files.which_is_barred.Given as goal

abbrev pub invariant-loop-k : goal.invariant-loop-k
invariant-loop-k l = AreFreeBelow l.asked l.sights l.k
