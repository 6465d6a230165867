use Rattle.std.proofs.Common.{◌≡◌, vec_len}
use Rattle.shape_merge.proofs.stamps.stamps_of.Given as goal

abbrev pub invariant-loop-name : goal.invariant-loop-name
invariant-loop-name l = vec_len l.stamps ≡ l.name-index
