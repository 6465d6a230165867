-- The least image, and the law on the sixteen images.
use Rattle.std.proofs.Common.{◌≡◌, ℕ, ◌^◌, ◌<◌, ◌≤◌, min, sym, refl, ap, ◌∙◌, arith, ⊎_elim, inl, inr, ◌↔◌}
use Rattle.std.proofs.lemmas.Bool.{cases_lt}
use Rattle.go_board.specs.declared.points.Colour.{Colour}
use Rattle.go_board.specs.declared.points.Colour.TheVariants as colour
use Rattle.go_board.specs.Play.{other}
use Rattle.shape_core.specs.declared.symmetries.Symmetry.{Symmetry}
use Rattle.shape_core.specs.declared.symmetries.Symmetry.TheVariants as symmetry
use Rattle.shape_core.specs.Inner.Flips.{flips}
use Rattle.shape_core.specs.Symmetry.{image_of, exchange_of, least_image, canonical_of, IsImageOf}
use Rattle.shape_core.proofs.Images.{image_of_small, images_compose, images_return, image-same, image-half_turn, image-right_turn, image-left_turn, image-rising}
use Rattle.shape_core.proofs.Exchanges.{exchange_of_small, exchange-exchange, exchange-image}

least-le : (w : ℕ) (s : Symmetry) → least_image w ≤ image_of s w
unfolding least_image
least-le w s = elim s as (λ s. least_image w ≤ image_of s w) [ symmetry.Same ↦ omega arith | symmetry.RightTurn ↦ omega arith | symmetry.HalfTurn ↦ omega arith | symmetry.LeftTurn ↦ omega arith | symmetry.LeftRight ↦ omega arith | symmetry.TopBottom ↦ omega arith | symmetry.FallingDiagonal ↦ omega arith | symmetry.RisingDiagonal ↦ omega arith ]

-- the least of two of which each is an image is an image
either_image : (w a b : ℕ) → (s : Symmetry) × (a ≡ image_of s w) → (s : Symmetry) × (b ≡ image_of s w) → (s : Symmetry) × (min a b ≡ image_of s w)
either_image w a b p q =
    ⊎_elim
    (λ (h : a < b). let e : min a b ≡ a = omega arith in (p.0, e ∙ p.1))
    (λ (h : b ≤ a). let e : min a b ≡ b = omega arith in (q.0, e ∙ q.1))
    (cases_lt a b)

pub least_is_image : (w : ℕ) → (s : Symmetry) × (least_image w ≡ image_of s w)
unfolding least_image
least_is_image w =
    let one : (s : Symmetry) → (t : Symmetry) × (image_of s w ≡ image_of t w) = λ s. (s, refl) in
    either_image w _ _ (one symmetry.Same) (either_image w _ _ (one symmetry.RightTurn) (either_image w _ _ (one symmetry.HalfTurn)
    (either_image w _ _ (one symmetry.LeftTurn) (either_image w _ _ (one symmetry.LeftRight) (either_image w _ _ (one symmetry.TopBottom)
    (either_image w _ _ (one symmetry.FallingDiagonal) (one symmetry.RisingDiagonal)))))))

-- the least image of an image is not less
least-image-ge : (s : Symmetry) (w : ℕ) → least_image w ≤ least_image (image_of s w)
least-image-ge s w =
    let found = least_is_image (image_of s w) in
    let step = images_compose found.0 s w in
    omega (arith, found.1, step.1, least-le w step.0)

least-image : (s : Symmetry) (w : ℕ) → w < 2 ^ 51 → least_image (image_of s w) ≡ least_image w
least-image s w small =
    let back = images_return s w small in
    let other_way = least-image-ge back.0 (image_of s w) in
    let home = ap least_image back.1 in
    omega (arith, least-image-ge s w)

pub least-least : (w : ℕ) → w < 2 ^ 51 → least_image (least_image w) ≡ least_image w
least-least w small =
    let found = least_is_image w in
    ap least_image found.1 ∙ least-image found.0 w small

image_between : (v w : ℕ) → w < 2 ^ 51 → least_image v ≡ least_image w → (s : Symmetry) × (w ≡ image_of s v)
image_between v w small e =
    let of_v = least_is_image v in
    let of_w = least_is_image w in
    let back = images_return of_w.0 w small in
    let step = images_compose back.0 of_v.0 v in
    (step.0, sym back.1 ∙ ap (image_of back.0) (sym of_w.1 ∙ sym e ∙ of_v.1) ∙ step.1)

-- ---- the order in which the program takes the eight

flips_are_image : (w : ℕ) → w < 2 ^ 51 → (s : Symmetry) × (min (flips w) (flips (image_of symmetry.FallingDiagonal w)) ≡ image_of s w)
unfolding flips
flips_are_image w small =
    either_image w _ _
    (either_image w _ _ (either_image w _ _ (either_image w _ _ (symmetry.Same, sym (image-same w small)) (symmetry.LeftRight, refl)) (symmetry.TopBottom, refl)) (symmetry.HalfTurn, image-half_turn w))
    (either_image w _ _ (either_image w _ _ (either_image w _ _ (symmetry.FallingDiagonal, refl) (symmetry.RightTurn, image-right_turn w)) (symmetry.LeftTurn, image-left_turn w)) (symmetry.RisingDiagonal, image-rising w))

flips-le : (w : ℕ) → w < 2 ^ 51 → (s : Symmetry) → min (flips w) (flips (image_of symmetry.FallingDiagonal w)) ≤ image_of s w
unfolding flips
flips-le w small s =
    elim s as (λ s. min (flips w) (flips (image_of symmetry.FallingDiagonal w)) ≤ image_of s w) [ symmetry.Same ↦ omega (arith, image-same w small) | symmetry.RightTurn ↦ omega (arith, image-right_turn w) | symmetry.HalfTurn ↦ omega (arith, image-half_turn w) | symmetry.LeftTurn ↦ omega (arith, image-left_turn w) | symmetry.LeftRight ↦ omega arith | symmetry.TopBottom ↦ omega arith | symmetry.FallingDiagonal ↦ omega arith | symmetry.RisingDiagonal ↦ omega (arith, image-rising w) ]

pub least_by_flips : (w : ℕ) → w < 2 ^ 51 → min (flips w) (flips (image_of symmetry.FallingDiagonal w)) ≡ least_image w
least_by_flips w small =
    let up = flips_are_image w small in
    let down = least_is_image w in
    let above = least-le w up.0 in
    let below = flips-le w small down.0 in
    omega (arith, up.1, down.1)

-- ---- the law

canonical_of_image : (s : Symmetry) (w : ℕ) (m : Colour) → w < 2 ^ 51 → canonical_of (image_of s w) m ≡ canonical_of w m
canonical_of_image s w colour.Black small = least-image s w small
canonical_of_image s w colour.White small = ap least_image (exchange-image s w) ∙ least-image s (exchange_of w) (exchange_of_small w)

canonical_of_other : (s : Symmetry) (w : ℕ) (m : Colour) → w < 2 ^ 51 → canonical_of (image_of s (exchange_of w)) (other m) ≡ canonical_of w m
canonical_of_other s w colour.Black small =
    ap least_image (exchange-image s (exchange_of w) ∙ ap (image_of s) (exchange-exchange w small)) ∙ least-image s w small
canonical_of_other s w colour.White small = least-image s (exchange_of w) (exchange_of_small w)

from_image : (a : ℕ) (m : Colour) (b : ℕ) (n : Colour) → a < 2 ^ 51 → IsImageOf a m b n → canonical_of a m ≡ canonical_of b n
from_image a m b n small h =
    let s = h.0 in
    ⊎_elim
    (λ (e : (b ≡ image_of s a) × (n ≡ m)). sym (canonical_of_image s a m small) ∙ ap (λ v. canonical_of v m) (sym e.0) ∙ ap (canonical_of b) (sym e.1))
    (λ (e : (b ≡ image_of s (exchange_of a)) × (n ≡ other m)). sym (canonical_of_other s a m small) ∙ ap (λ v. canonical_of v (other m)) (sym e.0) ∙ ap (canonical_of b) (sym e.1))
    h.1

to_image : (a : ℕ) (m : Colour) (b : ℕ) (n : Colour) → a < 2 ^ 51 → b < 2 ^ 51 → canonical_of a m ≡ canonical_of b n → IsImageOf a m b n
to_image a colour.Black b colour.Black p q e = let found = image_between a b q e in (found.0, inl (found.1, refl))
to_image a colour.Black b colour.White p q e =
    let found = image_between a (exchange_of b) (exchange_of_small b) e in
    (found.0, inr (sym (exchange-exchange b q) ∙ ap exchange_of found.1 ∙ exchange-image found.0 a, refl))
to_image a colour.White b colour.Black p q e =
    let found = image_between (exchange_of a) b q e in (found.0, inr (found.1, refl))
to_image a colour.White b colour.White p q e =
    let found = image_between (exchange_of a) (exchange_of b) (exchange_of_small b) e in
    (found.0, inl (sym (exchange-exchange b q) ∙ ap exchange_of found.1 ∙ exchange-image found.0 (exchange_of a) ∙ ap (image_of found.0) (exchange-exchange a p), refl))

-- two words with their movers have one canonical word exactly where one is among the sixteen images of the other
pub same_canonical : (a : ℕ) (m : Colour) (b : ℕ) (n : Colour) → a < 2 ^ 51 → b < 2 ^ 51 → (canonical_of a m ≡ canonical_of b n) ↔ IsImageOf a m b n
same_canonical a m b n p q = (to_image a m b n p q, from_image a m b n p)

-- ---- the least of two rows of flips

pub least_by_two : (w d r : ℕ) → w < 2 ^ 51 → d ≡ image_of symmetry.FallingDiagonal w → r ≡ min (flips w) (flips d) → r ≡ least_image w
least_by_two w d r small e f = f ∙ ap (λ x. min (flips w) (flips x)) e ∙ least_by_flips w small

pub least_small : (w : ℕ) → least_image w < 2 ^ 51
least_small w = let found = least_is_image w in rw (found.1) (image_of_small found.0 w)
