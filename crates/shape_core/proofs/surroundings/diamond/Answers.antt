use Rattle.std.proofs.Common.{◌+◌, ◌^◌, ap, ◌∙◌}
use Rattle.shape_core.specs.Around.{word_around}
use Rattle.shape_core.proofs.surroundings.diamond.Goals as goal

pub returns : goal.returns
unfolding word_around
returns c = c.of_bits.ensures ∙ ap (λ s. 2 ^ 50 + s) c.sum_around.ensures.value
