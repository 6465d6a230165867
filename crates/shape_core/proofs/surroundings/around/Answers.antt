use Rattle.std.proofs.Common.{◌∙◌, sym, zero-add}
use Rattle.shape_core.specs.Around.{word_around}
use Rattle.shape_core.proofs.surroundings.around.Goals as goal

pub returns : goal.returns
unfolding word_around
returns c = c.of_bits.ensures ∙ c.sum_around.ensures.value ∙ sym (zero-add _)
