use Rattle.std.proofs.Common.{◌≡◌, vec_len}
use Rattle.shape_merge.proofs.files.look_at_all.Given as goal

abbrev pub invariant-loop-name : goal.invariant-loop-name
invariant-loop-name l = vec_len l.identities ≡ l.name-index
