-- Images and the exchange of colours can be made in either order, and so can doubles and the least.
use Rattle.std.proofs.Common.{◌≡◌, ◌<◌, ◌*◌, ◌/◌, ◌^◌, ℕ, [], ◌∷◌, slice_index, slice_index_or, min, ap, ap₂, sym, ◌∙◌, arith}
use Rattle.shape_core.specs.declared.symmetries.Symmetry.{Symmetry}
use Rattle.shape_core.specs.declared.symmetries.Symmetry.TheVariants as symmetry
use Rattle.shape_core.specs.Word.{kind_of}
use Rattle.shape_core.specs.Symmetry.{image_of, exchange_of, least_image}
use Rattle.shape_core.specs.Inner.Flips.{flips}
use Rattle.shape_core.proofs.Images.{image_of_small, kind_of-image}
use Rattle.shape_core.proofs.Exchanges.{exchange-image, exchange_of_small}
use Rattle.shape_core.proofs.Least.{least_by_flips, least_small, least-least}
use Rattle.shape_core.proofs.imaged.ImagedWord.least_exchanged.Goals as goal

twice_least : (a b c d : ℕ) → min (2 * a) (2 * c) ∷ min (2 * b) (2 * d) ∷ [] ≡ 2 * min a c ∷ 2 * min b d ∷ []
twice_least a b c d = ap₂ (λ x y. x ∷ y ∷ []) (omega arith) (omega arith)

is_least : (c : goal.After-min) → c.min.result / 2 ≡ least_image (exchange_of (slice_index c.self.inside.pair 0))
unfolding flips
is_least c =
    let w = slice_index c.self.inside.pair 0 in
    let v = exchange_of w in
    let is = c.self.invariant in
    let diagonal = symmetry.FallingDiagonal in
    let left = symmetry.LeftRight in
    let top = symmetry.TopBottom in
    let d = image_of diagonal w in
    let e = image_of diagonal v in
    let small : (s : Symmetry) (n : ℕ) → image_of s n < 2 ^ 51 = image_of_small in
    let of_w : kind_of w ≡ c.args.kind = ap kind_of c.self.view_is ∙ c.requires in
    let of_d = kind_of-image diagonal w ∙ of_w in
    let of_left = kind_of-image left w ∙ of_w in
    let of_left_d = kind_of-image left d ∙ of_d in
    let to_e : exchange_of d ≡ e = exchange-image diagonal w in
    let to_left : exchange_of (image_of left w) ≡ image_of left v = exchange-image left w in
    let to_left_e : exchange_of (image_of left d) ≡ image_of left e = exchange-image left d ∙ ap (image_of left) to_e in
    let to_top : exchange_of (image_of top w) ≡ image_of top v = exchange-image top w in
    let to_top_e : exchange_of (image_of top d) ≡ image_of top e = exchange-image top d ∙ ap (image_of top) to_e in
    let to_both : exchange_of (image_of top (image_of left w)) ≡ image_of top (image_of left v) = exchange-image top (image_of left w) ∙ ap (image_of top) to_left in
    let to_both_e : exchange_of (image_of top (image_of left d)) ≡ image_of top (image_of left e) = exchange-image top (image_of left d) ∙ ap (image_of top) to_left_e in
    let pair = c.twice_exchanged-pair.ensures w d is.pair_is is.small (small diagonal w) of_w of_d ∙ ap (λ x. 2 * v ∷ 2 * x ∷ []) to_e in
    let flipped = c.twice_exchanged-flipped.ensures _ _ is.flipped_is (small left w) (small left d) of_left of_left_d ∙ ap₂ (λ x y. 2 * x ∷ 2 * y ∷ []) to_left to_left_e in
    let turned = c.twice_exchanged-turned.ensures _ _ is.turned_is (small top w) (small top d) (kind_of-image top w ∙ of_w) (kind_of-image top d ∙ of_d)
    ∙ ap₂ (λ x y. 2 * x ∷ 2 * y ∷ []) to_top to_top_e in
    let both = c.twice_exchanged-both.ensures _ _ is.both_is (small top (image_of left w)) (small top (image_of left d))
    (kind_of-image top (image_of left w) ∙ of_left) (kind_of-image top (image_of left d) ∙ of_left_d)
    ∙ ap₂ (λ x y. 2 * x ∷ 2 * y ∷ []) to_both to_both_e in
    let twice_small : (s : Symmetry) (n : ℕ) → 2 * image_of s n < 2 ^ 52 = λ s n. omega (arith, small s n) in
    let one : 2 * v < 2 ^ 52 = omega (arith, exchange_of_small w) in
    let two = c.lesser-least.ensures _ _ _ _ pair flipped one (twice_small diagonal v) (twice_small left v) (twice_small left e) ∙ twice_least v e (image_of left v) (image_of left e) in
    let m = min v (image_of left v) in
    let n = min e (image_of left e) in
    let m_small : m < 2 ^ 51 = omega (arith, exchange_of_small w) in
    let n_small : n < 2 ^ 51 = omega (arith, small diagonal v) in
    let three = c.lesser-least-2.ensures (2 * m) (2 * n) _ _ two turned (omega (arith, m_small)) (omega (arith, n_small)) (twice_small top v) (twice_small top e) ∙ twice_least m n (image_of top v) (image_of top e) in
    let p = min m (image_of top v) in
    let q = min n (image_of top e) in
    let p_small : p < 2 ^ 51 = omega (arith, m_small) in
    let q_small : q < 2 ^ 51 = omega (arith, n_small) in
    let four = c.lesser.ensures (2 * p) (2 * q) _ _ three both (omega (arith, p_small)) (omega (arith, q_small)) (twice_small top (image_of left v)) (twice_small top (image_of left e))
    ∙ twice_least p q (image_of top (image_of left v)) (image_of top (image_of left e)) in
    let least : c.min.result ≡ min (2 * flips v) (2 * flips e) = c.min.ensures ∙ ap (λ words. min (slice_index_or words 0 0) (slice_index_or words 1 0)) four in
    let half : c.min.result / 2 ≡ min (flips v) (flips e) = omega (arith, least) in
    half ∙ least_by_flips v (exchange_of_small w)

pub of_bits-requires : goal.of_bits-requires
of_bits-requires c = rw (is_least c) (least_small (exchange_of (slice_index c.self.inside.pair 0)))

pub returns-clause-value : goal.returns-clause-value
returns-clause-value c = c.of_bits.ensures ∙ is_least c.before ∙ ap (λ w. least_image (exchange_of w)) c.self.view_is

pub returns-clause-least : goal.returns-clause-least
returns-clause-least c =
    let e = c.of_bits.ensures ∙ is_least c.before in
    ap least_image e ∙ least-least (exchange_of (slice_index c.self.inside.pair 0)) (exchange_of_small (slice_index c.self.inside.pair 0)) ∙ sym e
