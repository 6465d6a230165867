use Rattle.std.proofs.Common.{◌≡◌, drop}
use Rattle.sgf_core.specs.Inner.Lines.{line_of}
use Rattle.sgf_core.proofs.lines.node_place.Given as goal

-- what was passed adds nothing to the line
abbrev pub invariant-loop-place : goal.invariant-loop-place
invariant-loop-place l = line_of (drop l.place l.marks) ≡ line_of l.marks
