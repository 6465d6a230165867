use Rattle.std.proofs.Common.{refl, sym}
use Rattle.shape_core.specs.declared.symmetries.Symmetry.TheVariants as symmetry
use Rattle.shape_core.proofs.Images.{image_of_small}
use Rattle.shape_core.proofs.masks.top_bottom.Goals as goal

pub returns-clause-small : goal.returns-clause-small
returns-clause-small c =
    rw (c.top_bottom.ensures c.args.word c.args.word refl c.requires c.requires (sym c.kind.ensures) (sym c.kind.ensures)) (image_of_small symmetry.TopBottom c.args.word)
