use Rattle.std.proofs.Common.{◌∙◌, ℕ, ◌^◌, ap}
use Rattle.sheet_core.specs.Bounds.{bound_from, bound_of}
use Rattle.sheet_core.proofs.bounds.bound_of.Goals as goal

pub returns : goal.returns
unfolding bound_of
returns c = c.bound_for.ensures ∙ ap (λ (n : ℕ). bound_from 20 n c.args.entry.now.played (2 ^ 19) 0) c.max.ensures
