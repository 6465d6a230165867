use Rattle.std.proofs.Common.{◌<◌, ◌^◌, [], ◌∷◌, refl, ap, sym, ◌∙◌}
use Rattle.shape_core.specs.declared.symmetries.Symmetry.TheVariants as symmetry
use Rattle.shape_core.specs.Symmetry.{image_of}
use Rattle.shape_core.specs.Word.{kind_of}
use Rattle.shape_core.proofs.Images.{image_of_small, kind_of-image}
use Rattle.shape_core.proofs.imaged.ImagedWord.new.Goals as goal

pub invariant_of-result : goal.invariant_of-result
invariant_of-result c =
    let w = c.bits-bits.result in
    let d = c.diagonal.result in
    let left = symmetry.LeftRight in
    let top = symmetry.TopBottom in
    let small : w < 2 ^ 51 = rw c.bits-bits.ensures.value c.bits-bits.ensures.small in
    let of_w = ap kind_of c.bits-bits.ensures.value ∙ sym c.kind-kind.ensures in
    let of_d = ap kind_of c.diagonal.ensures.value ∙ kind_of-image symmetry.FallingDiagonal w ∙ of_w in
    let flipped = c.left_right-flipped.ensures w d refl small c.diagonal.ensures.small of_w of_d in
    record {
      small = small;
      pair_is = ap (λ x. w ∷ x ∷ []) c.diagonal.ensures.value;
      flipped_is = flipped ∙ ap (λ x. image_of left w ∷ image_of left x ∷ []) c.diagonal.ensures.value;
      turned_is = c.top_bottom.ensures w d refl small c.diagonal.ensures.small of_w of_d ∙ ap (λ x. image_of top w ∷ image_of top x ∷ []) c.diagonal.ensures.value;
      both_is = c.top_bottom-2.ensures _ _ flipped (image_of_small left w) (image_of_small left d) (kind_of-image left w ∙ of_w) (kind_of-image left d ∙ of_d)
          ∙ ap (λ x. image_of top (image_of left w) ∷ image_of top (image_of left x) ∷ []) c.diagonal.ensures.value;
    }
