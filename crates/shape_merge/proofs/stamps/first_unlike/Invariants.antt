use Rattle.shape_merge.specs.Stamps.{AreAlikeBelow}
use Rattle.shape_merge.proofs.stamps.first_unlike.Given as goal

abbrev pub invariant-loop-k : goal.invariant-loop-k
invariant-loop-k l = AreAlikeBelow l.before l.after l.k
