use Rattle.std.proofs.Common.{◌-◌, length}
use Rattle.sgf_core.proofs.PropertyLemmas.{ReadsValues}
use Rattle.sgf_core.proofs.property.read_property.Given as goal

-- after the identifier come the values so far, and white bytes
abbrev pub invariant-loop-place : goal.invariant-loop-place
invariant-loop-place l = ReadsValues l.bytes l.identifier_end l.place l.kept l.some l.values.items

abbrev pub decreases-loop-place : goal.decreases-loop-place
decreases-loop-place l = length l.bytes - l.place
