-- Canonical words keep their kind.
use Rattle.std.proofs.Common.{◌≡◌, ℕ, refl, ap, ◌∙◌}
use Rattle.go_board.specs.Extent.{Extent}
use Rattle.go_board.specs.Position.{Position}
use Rattle.go_board.specs.declared.points.Point.{Point}
use Rattle.go_board.specs.declared.points.Colour.{Colour}
use Rattle.go_board.specs.declared.points.Colour.TheVariants as colour
use Rattle.shape_core.specs.declared.words.Kind.{Kind}
use Rattle.shape_core.specs.declared.words.Kind.TheVariants as kind
use Rattle.shape_core.specs.Offset.{offsets_of}
use Rattle.shape_core.specs.Word.{kind_of}
use Rattle.shape_core.specs.Symmetry.{exchange_of, least_image, canonical_of}
use Rattle.shape_core.specs.Around.{word_around}
use Rattle.shape_core.proofs.Codes.{kind_of-word_of}
use Rattle.shape_core.proofs.Images.{kind_of-image}
use Rattle.shape_core.proofs.Exchanges.{kind_of-exchange}
use Rattle.shape_core.proofs.Least.{least_is_image}
use Rattle.shape_core.proofs.Reach.{codes_round, AreCodes-codes_round, word_around_is}

kind_of-least : (w : ℕ) → kind_of (least_image w) ≡ kind_of w
kind_of-least w =
    let found = least_is_image w in
    ap kind_of found.1 ∙ kind_of-image found.0 w

pub kind_of-canonical : (w : ℕ) (mover : Colour) → kind_of (canonical_of w mover) ≡ kind_of w
kind_of-canonical w colour.Black = kind_of-least w
kind_of-canonical w colour.White = kind_of-least (exchange_of w) ∙ kind_of-exchange w

pub kind_of-around : (k : Kind) (size : Extent) (position : Position) (p : Point) → kind_of (word_around k size position p) ≡ k
kind_of-around kind.Square size position p =
    ap kind_of (word_around_is kind.Square size position p)
    ∙ kind_of-word_of kind.Square (codes_round size position p (offsets_of kind.Square)) (AreCodes-codes_round size position p (offsets_of kind.Square) refl)
kind_of-around kind.Diamond size position p =
    ap kind_of (word_around_is kind.Diamond size position p)
    ∙ kind_of-word_of kind.Diamond (codes_round size position p (offsets_of kind.Diamond)) (AreCodes-codes_round size position p (offsets_of kind.Diamond) refl)
