-- Each pair has the code of its cells changed.
use Rattle.std.proofs.Common.{◌<◌, ◌^◌, ℕ, [], ◌∷◌, slice_index, get_or, bit_xor, refl, ap, sym, subst, ◌∙◌}
use Rattle.shape_core.specs.declared.symmetries.Symmetry.{Symmetry}
use Rattle.shape_core.specs.declared.symmetries.Symmetry.TheVariants as symmetry
use Rattle.shape_core.specs.Symmetry.{image_of}
use Rattle.shape_core.specs.Word.{kind_of, code_at}
use Rattle.shape_core.specs.Inner.Word.{with_change}
use Rattle.shape_core.specs.Inner.Images.{AreImages, bits_row}
use Rattle.shape_core.proofs.Images.{sources, cell-lt, image_of_small, kind_of-image}
use Rattle.shape_core.proofs.Recoding.{changed_pair, changed_small, code_followed, falling_back, left_right_back, top_bottom_back, AreImages-recoded}
use Rattle.shape_core.proofs.imaged.ImagedWord.with_change.Goals as goal

pairs : (c : goal.After-changed-4) → AreImages (with_change (slice_index c.self.inside.pair 0) c.args.cell c.args.change) c.changed.result c.changed-2.result c.changed-3.result c.changed-4.result
unfolding bits_row sources
pairs c =
    let w = slice_index c.self.inside.pair 0 in
    let d = image_of symmetry.FallingDiagonal w in
    let k = kind_of w in
    let cell = c.args.cell in
    let change = c.args.change in
    let code = code_at w cell in
    let l = c.requires.cell in
    let h = c.requires.change in
    let is = c.self.invariant in
    let top = symmetry.TopBottom in
    let left = symmetry.LeftRight in
    let left_w = image_of left w in
    let left_d = image_of left d in
    let top_w = image_of top w in
    let top_d = image_of top d in
    let both_w = image_of top left_w in
    let both_d = image_of top left_d in
    let f = get_or (sources k symmetry.FallingDiagonal) cell 0 in
    let m = get_or (sources k left) cell 0 in
    let n = get_or (sources k left) f 0 in
    let f_small = cell-lt k symmetry.FallingDiagonal cell l in
    let m_small = cell-lt k left cell l in
    let n_small = cell-lt k left f f_small in
    let row = c.cell_bits-bits.ensures ∙ ap (λ q. bits_row q change cell) (sym c.requires.kind ∙ ap kind_of (sym c.self.view_is)) in
    let small : (s : Symmetry) (v : ℕ) → image_of s v < 2 ^ 51 = image_of_small in
    let of_d = kind_of-image symmetry.FallingDiagonal w in
    let of_left = kind_of-image left w in
    let of_left_d = kind_of-image left d ∙ of_d in
    let code_d = code_followed k symmetry.FallingDiagonal w cell refl (falling_back k) l in
    let code_left = code_followed k left w cell refl (left_right_back k) l in
    let code_left_d = code_followed k left d f of_d (left_right_back k) f_small ∙ code_d in
    let code_top = code_followed k top w cell refl (top_bottom_back k) l in
    let code_top_d = code_followed k top d f of_d (top_bottom_back k) f_small ∙ code_d in
    let code_both = code_followed k top left_w m of_left (top_bottom_back k) m_small ∙ code_left in
    let code_both_d = code_followed k top left_d n of_left_d (top_bottom_back k) n_small ∙ code_left_d in
    AreImages-recoded k w cell (bit_xor code change) c.changed.result c.changed-2.result c.changed-3.result c.changed-4.result refl l (changed_small w cell change h)
    (changed_pair w d cell f code change is.small (small symmetry.FallingDiagonal w) l f_small h refl code_d c.changed.result
    (c.changed.ensures _ _ is.pair_is ∙ ap (λ bits. bit_xor w (get_or bits 0 0) ∷ bit_xor d (get_or bits 1 0) ∷ []) row))
    (changed_pair left_w left_d m n code change (small left w) (small left d) m_small n_small h code_left code_left_d c.changed-2.result
    (c.changed-2.ensures _ _ is.flipped_is ∙ ap (λ bits. bit_xor left_w (get_or bits 2 0) ∷ bit_xor left_d (get_or bits 3 0) ∷ []) row))
    (changed_pair top_w top_d (get_or (sources k top) cell 0) (get_or (sources k top) f 0) code change (small top w) (small top d)
    (cell-lt k top cell l) (cell-lt k top f f_small) h code_top code_top_d c.changed-3.result
    (c.changed-3.ensures _ _ is.turned_is ∙ ap (λ bits. bit_xor top_w (get_or bits 4 0) ∷ bit_xor top_d (get_or bits 5 0) ∷ []) row))
    (changed_pair both_w both_d (get_or (sources k top) m 0) (get_or (sources k top) n 0) code change
    (small top left_w) (small top left_d) (cell-lt k top m m_small) (cell-lt k top n n_small) h code_both code_both_d c.changed-4.result
    (c.changed-4.ensures _ _ is.both_is ∙ ap (λ bits. bit_xor both_w (get_or bits 6 0) ∷ bit_xor both_d (get_or bits 7 0) ∷ []) row))

pub invariant_of-result : goal.invariant_of-result
invariant_of-result c =
    subst (λ v. AreImages v c.changed.result c.changed-2.result c.changed-3.result c.changed-4.result) (ap (λ words. slice_index words 0) (sym (pairs c).pair_is)) (pairs c)

pub returns : goal.returns
returns c = ap (λ words. slice_index words 0) (pairs c).pair_is ∙ ap (λ v. with_change v c.args.cell c.args.change) c.self.view_is
