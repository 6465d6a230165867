use Rattle.std.proofs.Common.{◌≡◌, ◌<◌, ◌^◌, ℕ, slice_index, slice_index_or, min, refl, ap, sym, ◌∙◌, arith}
use Rattle.shape_core.specs.declared.symmetries.Symmetry.{Symmetry}
use Rattle.shape_core.specs.declared.symmetries.Symmetry.TheVariants as symmetry
use Rattle.shape_core.specs.Symmetry.{image_of, least_image}
use Rattle.shape_core.specs.Inner.Flips.{flips}
use Rattle.shape_core.proofs.Images.{image_of_small}
use Rattle.shape_core.proofs.Least.{least_by_two, least_small, least-least}
use Rattle.shape_core.proofs.imaged.ImagedWord.least.Goals as goal

is_least : (c : goal.After-min) → c.min.result ≡ least_image (slice_index c.self.inside.pair 0)
unfolding flips
is_least c =
    let w = slice_index c.self.inside.pair 0 in
    let is = c.self.invariant in
    let small : (s : Symmetry) (v : ℕ) → image_of s v < 2 ^ 52 = λ s v. omega (arith, image_of_small s v) in
    let d = image_of symmetry.FallingDiagonal w in
    let left = image_of symmetry.LeftRight w in
    let left_d = image_of symmetry.LeftRight d in
    let top = image_of symmetry.TopBottom w in
    let top_d = image_of symmetry.TopBottom d in
    let of_left = small symmetry.LeftRight w in
    let of_left_d = small symmetry.LeftRight d in
    let of_top = small symmetry.TopBottom w in
    let of_top_d = small symmetry.TopBottom d in
    let once : min w left < 2 ^ 52 = omega (arith, of_left) in
    let once_d : min d left_d < 2 ^ 52 = omega (arith, of_left_d) in
    let twice : min (min w left) top < 2 ^ 52 = omega (arith, of_top) in
    let twice_d : min (min d left_d) top_d < 2 ^ 52 = omega (arith, of_top_d) in
    let two = c.lesser-least.ensures w d left left_d is.pair_is is.flipped_is (omega (arith, is.small)) (small symmetry.FallingDiagonal w) of_left of_left_d in
    let three = c.lesser-least-2.ensures (min w left) (min d left_d) top top_d two is.turned_is once once_d of_top of_top_d in
    let four = c.lesser.ensures _ _ _ _ three is.both_is twice twice_d (small symmetry.TopBottom left) (small symmetry.TopBottom left_d) in
    least_by_two w (image_of symmetry.FallingDiagonal w) c.min.result is.small refl
    (c.min.ensures ∙ ap (λ words. min (slice_index_or words 0 0) (slice_index_or words 1 0)) four)

pub of_bits-requires : goal.of_bits-requires
of_bits-requires c = rw (is_least c) (least_small (slice_index c.self.inside.pair 0))

pub returns-clause-value : goal.returns-clause-value
returns-clause-value c = c.of_bits.ensures ∙ is_least c.before ∙ ap least_image c.self.view_is

pub returns-clause-least : goal.returns-clause-least
returns-clause-least c =
    let e = c.of_bits.ensures ∙ is_least c.before in
    ap least_image e ∙ least-least (slice_index c.self.inside.pair 0) c.self.invariant.small ∙ sym e
