use Rattle.std.proofs.Common.{◌-◌, length}
use Rattle.sgf_core.proofs.Progress.{IsFrontKept}
use Rattle.sgf_core.proofs.parse.read_tree.Given as goal

abbrev pub invariant-loop-marks : goal.invariant-loop-marks
invariant-loop-marks l = IsFrontKept l.bytes l.at l.place l.marks.items l.kept l.expects l.depth

abbrev pub decreases-loop-marks : goal.decreases-loop-marks
decreases-loop-marks l = length l.bytes - l.place
