-- How much is counted at most: a game has no more moves than actions, and with a move a pattern is there at most 5408 times,
-- and played twice.
use Rattle.std.proofs.Common.{ℕ, ◌*◌, ◌^◌, ◌<◌, ◌≤◌, ◌==◌, true, false, cond, List, [], ◌∷◌, length, length-append, ap, arith, All}
use Rattle.go_board.specs.Extent.{Extent, IsExtent}
use Rattle.go_board.specs.Position.{Position}
use Rattle.go_record.specs.declared.actions.Action.{Action}
use Rattle.go_record.specs.declared.actions.Action.TheVariants as action
use Rattle.tally_core.specs.Occasions.{Occasion, AreOccasions, HasOccasions, is_empty, occasion_of}
use Rattle.tally_core.proofs.Bounded.{there-few, played-few}
use Rattle.gather_core.proofs.Common.{sum_by, sum_by-cons, sum_by-append, recursion_from_All, AllByRecursion, Actions, Kinds, kinds_of, there_in, played_in, Row, there_of, played_of, Held, Added, replayed_of, IsShare, all_rows, all_moves}
use Rattle.gather_core.specs.Inner.Words.{HaveSmallCounts}

-- ---- a game has no more occasions than actions
few_first : (before : Position) (one : Action) → length (occasion_of before one) ≤ 1
few_first before (action.Set low high stone) = omega arith
few_first before (action.Pass mover) = omega arith
few_first before (action.Move mover at) =
    let here : Occasion = record { position = before; mover = mover; at = at } in
    elim (is_empty (before at)) as (λ b. length (cond b (here ∷ []) []) ≤ 1) [ true ↦ omega arith | false ↦ omega arith ]

few_from : (size : Extent) (actions : List Action) (before : Position) (occasions : List Occasion) → HasOccasions size actions before occasions → length occasions ≤ length actions
few_from size [] before occasions is = omega (arith, ap (λ (os : List Occasion). length os) is)
few_from size (one ∷ actions) before occasions is =
    omega (
      arith,
      ap (λ (os : List Occasion). length os) is.4,
      length-append (occasion_of before one) is.1,
      few_first before one,
      few_from size actions is.0 is.1 is.3,
    )

pub few_occasions : (actions : Actions) (occasions : List Occasion) → AreOccasions actions occasions → length occasions ≤ length actions.actions
few_occasions actions occasions is = few_from actions.size actions.actions is.start occasions is.replayed

-- ---- what shares count of a pattern
added_few : (kinds : Kinds) (added : List Added) (shape : ℕ) → AllByRecursion (λ (one : Added). IsExtent one.actions.size) added →
    (sum_by (λ one. there_in (kinds_of kinds) (replayed_of one) shape) added ≤ 5408 * sum_by (λ one. length one.occasions) added)
    × (sum_by (λ one. played_in (kinds_of kinds) (replayed_of one) shape) added ≤ 2 * sum_by (λ one. length one.occasions) added)
added_few kinds [] shape sized = (omega arith, omega arith)
added_few kinds (one ∷ added) shape sized =
    let rest = added_few kinds added shape sized.1 in
    let moves = sum_by-cons (λ (a : Added). length a.occasions) one added in (
      omega (arith, moves, rest.0, sum_by-cons (λ (a : Added). there_in (kinds_of kinds) (replayed_of a) shape) one added, there-few kinds one.actions.size one.occasions shape sized.0),
      omega (arith, moves, rest.1, sum_by-cons (λ (a : Added). played_in (kinds_of kinds) (replayed_of a) shape) one added, played-few kinds one.actions.size one.occasions shape),
    )

pub rows_few : (shares : List Held) → AllByRecursion IsShare shares → (shape : ℕ) →
    (there_of (all_rows shares) shape ≤ 5408 * all_moves shares) × (played_of (all_rows shares) shape ≤ 2 * all_moves shares)
rows_few [] of shape = (omega arith, omega arith)
rows_few (share ∷ shares) of shape =
    let rest = rows_few shares of.1 shape in
    let is = of.0.is_of in
    let here = added_few share.kinds of.0.added shape is.sized in
    let moves = sum_by-cons (λ (s : Held). s.moves) share shares in (
      omega (arith, moves, is.moves, rest.0, here.0, is.there shape, sum_by-append (λ (row : Row). cond (row.shape == shape) row.there 0) share.rows (all_rows shares)),
      omega (arith, moves, is.moves, rest.1, here.1, is.played shape, sum_by-append (λ (row : Row). cond (row.shape == shape) row.played 0) share.rows (all_rows shares)),
    )

-- so shares of few moves have small counts
pub counts_small : (shares : List Held) → All IsShare shares → 5410 * all_moves shares < 2 ^ 64 → HaveSmallCounts (all_rows shares)
counts_small shares of few shape =
    let each = rows_few shares (recursion_from_All IsShare shares of) shape in
    omega (arith, each.0, each.1, few)
