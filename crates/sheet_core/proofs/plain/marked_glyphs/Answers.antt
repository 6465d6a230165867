use Rattle.std.proofs.Common.{ap, slice_set}
use Rattle.sheet_core.specs.Plain.{marked_glyphs}
use Rattle.sheet_core.proofs.plain.marked_glyphs.Goals as goal

pub returns : goal.returns
unfolding marked_glyphs
returns c = ap (λ glyphs. slice_set glyphs 12 42) c.glyphs-marked.ensures
