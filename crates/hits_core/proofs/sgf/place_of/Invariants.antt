use Rattle.hits_core.proofs.Cutting.{IsCutAt}
use Rattle.hits_core.proofs.sgf.place_of.Given as goal

abbrev pub invariant-loop-place : goal.invariant-loop-place
invariant-loop-place l = IsCutAt l.moves l.left l.place l.actions
