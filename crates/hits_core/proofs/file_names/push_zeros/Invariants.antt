use Rattle.std.proofs.Common.{◌≡◌, ◌++◌, replicate}
use Rattle.hits_core.proofs.file_names.push_zeros.Given as goal

abbrev pub invariant-loop-place : goal.invariant-loop-place
invariant-loop-place l = l.text.items ≡ l.fn.text.items ++ replicate l._place 48
