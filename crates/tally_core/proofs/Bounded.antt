-- How often a pattern can be counted: at an occasion at most twice for each of the 52 * 52 points, and twice for the move.
use Rattle.std.proofs.Common.{◌≡◌, ℕ, zero, suc, ◌*◌, ◌≤◌, ◌==◌, Bool, true, false, cond, List, [], ◌∷◌, length, length-append, filter, refl, ◌∙◌, arith}
use Rattle.std.specs.List.{flat_map}
use Rattle.std.proofs.Math.Nat.{mul-le-mul_right, suc-mul}
use Rattle.std.proofs.lemmas.List.{length-map}
use Rattle.std.proofs.lemmas.List.Sums.{count_by-le-length}
use Rattle.go_board.specs.Extent.{Extent, IsExtent}
use Rattle.go_board.specs.Position.{Position}
use Rattle.go_board.specs.declared.points.Point.{Point}
use Rattle.go_board.specs.declared.points.Colour.{Colour}
use Rattle.shape_core.specs.declared.words.Kinds.{Kinds}
use Rattle.shape_core.specs.declared.words.Kinds.TheVariants as which
use Rattle.shape_core.specs.Word.{count_from}
use Rattle.tally_core.specs.Occasions.{Occasion, is_empty}
use Rattle.tally_core.specs.Counts.{kinds_of, row_of, points_of, patterns_at, patterns_there, patterns_played}
use Rattle.tally_core.specs.Inner.Times.{times_in}

few-at : (kinds : Kinds) (size : Extent) (position : Position) (mover : Colour) (point : Point) → length (patterns_at (kinds_of kinds) size position mover point) ≤ 2
few-at which.Squares size position mover point = omega arith
few-at which.Both size position mover point = omega arith

few-kept : {X : Type 0} (f : X → List ℕ) (p : X → Bool) (xs : List X) → ((x : X) → length (f x) ≤ 2) → length (flat_map f (filter p xs)) ≤ 2 * length xs
few-kept f p [] few = omega arith
few-kept f p (x ∷ xs) few =
    let rest = few-kept f p xs few in
    elim (p x) as (λ b. length (flat_map f (cond b (x ∷ filter p xs) (filter p xs))) ≤ 2 * suc (length xs))
    [ true ↦ omega (arith, length-append (f x) (flat_map f (filter p xs)), few x, rest) | false ↦ omega (arith, rest) ]

length-count_from : (first n : ℕ) → length (count_from first n) ≡ n
length-count_from first zero = refl
length-count_from first (suc n) = omega (arith, length-count_from (suc first) n)

length-row : (size : Extent) (row : ℕ) → length (row_of size row) ≡ size.columns
length-row size row = length-map (count_from 0 size.columns) (λ column. record { column = column; row = row }) ∙ length-count_from 0 size.columns

length-rows : (size : Extent) (first n : ℕ) → length (flat_map (row_of size) (count_from first n)) ≡ n * size.columns
length-rows size first zero = omega arith
length-rows size first (suc n) =
    omega (arith, length-append (row_of size first) (flat_map (row_of size) (count_from (suc first) n)), length-row size first, length-rows size (suc first) n, suc-mul n size.columns)

few-points : (size : Extent) → IsExtent size → length (points_of size) ≤ 2704
few-points size extent =
    omega (
      arith,
      length-rows size 0 size.rows,
      mul-le-mul_right {m = size.rows} {n = 52} size.columns extent.few_rows,
      extent.few_columns,
    )

few-there : (kinds : Kinds) (size : Extent) (o : Occasion) → IsExtent size → length (patterns_there (kinds_of kinds) size o) ≤ 5408
few-there kinds size o extent =
    omega (
      arith,
      few-points size extent,
      few-kept (patterns_at (kinds_of kinds) size o.position o.mover) (λ q. is_empty (o.position q)) (points_of size) (few-at kinds size o.position o.mover),
    )

few-each : (f : Occasion → List ℕ) (most : ℕ) (done : List Occasion) → ((o : Occasion) → length (f o) ≤ most) → length (flat_map f done) ≤ length done * most
few-each f most [] few = omega arith
few-each f most (o ∷ done) few = omega (arith, length-append (f o) (flat_map f done), few o, few-each f most done few, suc-mul (length done) most)

pub there-few : (kinds : Kinds) (size : Extent) (done : List Occasion) (shape : ℕ) → IsExtent size → times_in (flat_map (patterns_there (kinds_of kinds) size) done) shape ≤ 5408 * length done
there-few kinds size done shape extent =
    let all = flat_map (patterns_there (kinds_of kinds) size) done in
    omega (arith, count_by-le-length (λ c. c == shape) all, few-each (patterns_there (kinds_of kinds) size) 5408 done (λ o. few-there kinds size o extent))

pub played-few : (kinds : Kinds) (size : Extent) (done : List Occasion) (shape : ℕ) → times_in (flat_map (patterns_played (kinds_of kinds) size) done) shape ≤ 2 * length done
played-few kinds size done shape =
    let all = flat_map (patterns_played (kinds_of kinds) size) done in
    omega (arith, count_by-le-length (λ c. c == shape) all, few-each (patterns_played (kinds_of kinds) size) 2 done (λ o. few-at kinds size o.position o.mover o.at))
