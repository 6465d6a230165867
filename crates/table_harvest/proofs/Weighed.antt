-- All that a share's rows count together, and all that a game's meetings do, is at most 5410 for each action of the games.
use Rattle.std.proofs.Common.{◌≡◌, ℕ, zero, suc, ◌+◌, ◌*◌, ◌^◌, ◌≤◌, ◌==◌, Bool, true, false, cond, List, [], ◌∷◌, length, length-append, filter, refl, ◌∙◌, arith, ⊎_elim}
use Rattle.std.specs.Prelude.{sum_by}
use Rattle.std.specs.List.{AllByRecursion, flat_map}
use Rattle.std.proofs.Math.Nat.{mul-le-mul_right, suc-mul}
use Rattle.std.proofs.lemmas.List.{length-map}
use Rattle.std.proofs.lemmas.List.Sums.{sum_by-cons}
use Rattle.go_board.specs.Extent.{Extent, IsExtent}
use Rattle.go_board.specs.Position.{Position}
use Rattle.go_board.specs.declared.points.Point.{Point}
use Rattle.go_board.specs.declared.points.Colour.{Colour}
use Rattle.go_record.specs.Actions.{Actions}
use Rattle.shape_core.specs.declared.words.Kinds.{Kinds}
use Rattle.shape_core.specs.declared.words.Kinds.TheVariants as which
use Rattle.shape_core.specs.Word.{count_from}
use Rattle.tally_core.specs.Occasions.{Occasion, AreOccasions, is_empty}
use Rattle.tally_core.specs.Counts.{Replayed, kinds_of, row_of, points_of, patterns_at, patterns_there, patterns_played}
use Rattle.tally_core.specs.Walk.{IsWalk}
use Rattle.tally_core.specs.declared.meetings.Meeting.{Meeting}
use Rattle.tally_core.proofs.DoubleCounting.{sum-ones, count-flat_map}
use Rattle.gather_core.specs.declared.rows.Row.{Row}
use Rattle.table_shares.specs.Raising.{weight_of, weight_among}
use Rattle.gather_core.specs.Shares.{Held, Added, replayed_of, IsShareOf}
use Rattle.table_shares.specs.Adding.{IsTooLarge}
use Rattle.gather_core.proofs.Few.{few_occasions}
use Rattle.table_harvest.proofs.Keyed.{sum_both, sum_by_keys}

-- ---- at an occasion at most twice 52 * 52 patterns are there, and two are played
few_at : (kinds : Kinds) (size : Extent) (position : Position) (mover : Colour) (point : Point) → length (patterns_at (kinds_of kinds) size position mover point) ≤ 2
few_at which.Squares size position mover point = omega arith
few_at which.Both size position mover point = omega arith

few_kept : {X : Type 0} (f : X → List ℕ) (p : X → Bool) (xs : List X) → ((x : X) → length (f x) ≤ 2) → length (flat_map f (filter p xs)) ≤ 2 * length xs
few_kept f p [] few = omega arith
few_kept f p (x ∷ xs) few =
    let rest = few_kept f p xs few in
    elim (p x) as (λ b. length (flat_map f (cond b (x ∷ filter p xs) (filter p xs))) ≤ 2 * suc (length xs))
    [ true ↦ omega (arith, length-append (f x) (flat_map f (filter p xs)), few x, rest) | false ↦ omega (arith, rest) ]

length_from : (first n : ℕ) → length (count_from first n) ≡ n
length_from first zero = refl
length_from first (suc n) = omega (arith, length_from (suc first) n)

length_row : (size : Extent) (row : ℕ) → length (row_of size row) ≡ size.columns
length_row size row = length-map (count_from 0 size.columns) (λ column. record { column = column; row = row }) ∙ length_from 0 size.columns

length_rows : (size : Extent) (first n : ℕ) → length (flat_map (row_of size) (count_from first n)) ≡ n * size.columns
length_rows size first zero = omega arith
length_rows size first (suc n) =
    omega (arith, length-append (row_of size first) (flat_map (row_of size) (count_from (suc first) n)), length_row size first, length_rows size (suc first) n, suc-mul n size.columns)

few_points : (size : Extent) → IsExtent size → length (points_of size) ≤ 2704
few_points size extent =
    omega (arith, length_rows size 0 size.rows, mul-le-mul_right {m = size.rows} {n = 52} size.columns extent.few_rows, extent.few_columns)

few_there : (kinds : Kinds) (size : Extent) (o : Occasion) → IsExtent size → length (patterns_there (kinds_of kinds) size o) ≤ 5408
few_there kinds size o extent =
    omega (
      arith,
      few_points size extent,
      few_kept (patterns_at (kinds_of kinds) size o.position o.mover) (λ q. is_empty (o.position q)) (points_of size) (few_at kinds size o.position o.mover),
    )

few_each : (f : Occasion → List ℕ) (most : ℕ) (done : List Occasion) → ((o : Occasion) → length (f o) ≤ most) → length (flat_map f done) ≤ length done * most
few_each f most [] few = omega arith
few_each f most (o ∷ done) few = omega (arith, length-append (f o) (flat_map f done), few o, few_each f most done few, suc-mul (length done) most)

-- ---- the patterns that were there in a game, one after another, and those that were played
abbrev all_there : Kinds → Replayed → List ℕ
all_there kinds game = flat_map (patterns_there (kinds_of kinds) game.size) game.occasions

abbrev all_played : Kinds → Replayed → List ℕ
all_played kinds game = flat_map (patterns_played (kinds_of kinds) game.size) game.occasions

game_few : (kinds : Kinds) (actions : Actions) (occasions : List Occasion) → IsExtent actions.size → AreOccasions actions occasions →
    length (flat_map (patterns_there (kinds_of kinds) actions.size) occasions) + length (flat_map (patterns_played (kinds_of kinds) actions.size) occasions) ≤ 5410 * length actions.actions
game_few kinds actions occasions extent is =
    omega (
      arith,
      few_occasions actions occasions is,
      few_each (patterns_there (kinds_of kinds) actions.size) 5408 occasions (λ o. few_there kinds actions.size o extent),
      few_each (patterns_played (kinds_of kinds) actions.size) 2 occasions (λ o. few_at kinds actions.size o.position o.mover o.at),
    )

-- ---- the meetings of a game
pub meetings_few : (kinds : Kinds) (actions : Actions) (meetings : List Meeting) (moves : ℕ) → IsExtent actions.size → IsWalk kinds actions meetings moves →
    weight_among meetings ≤ 5410 * length actions.actions
meetings_few kinds actions meetings moves extent walked =
    let game : Replayed = record { size = actions.size; occasions = walked.occasions } in
    let there = sum_by_keys (λ (m : Meeting). m.shape) (λ (m : Meeting). m.there) meetings (λ (c : ℕ). c) (λ (c : ℕ). 1) (all_there kinds game) (λ shape. omega (arith, walked.there shape)) in
    let played = sum_by_keys (λ (m : Meeting). m.shape) (λ (m : Meeting). m.played) meetings (λ (c : ℕ). c) (λ (c : ℕ). 1) (all_played kinds game) (λ shape. omega (arith, walked.played shape)) in
    omega (
      arith,
      there,
      played,
      sum_both (λ (m : Meeting). m.there) (λ (m : Meeting). m.played) meetings,
      sum-ones (λ (c : ℕ). 1) (all_there kinds game) (λ c. refl),
      sum-ones (λ (c : ℕ). 1) (all_played kinds game) (λ c. refl),
      game_few kinds actions walked.occasions extent walked.replayed,
    )

-- ---- the rows of a share
-- all actions of games
abbrev pub actions_of : List Added → ℕ
actions_of added = sum_by (λ (one : Added). length one.actions.actions) added

-- each game's board has sides from 1 to 52
abbrev AreSized : List Added → Type 0
AreSized added = AllByRecursion (λ (one : Added). IsExtent one.actions.size) added

abbrev AreReplays : List Added → Type 0
AreReplays added = AllByRecursion (λ (one : Added). AreOccasions one.actions one.occasions) added

added_few : (kinds : Kinds) (added : List Added) → AreSized added → AreReplays added →
    length (flat_map (λ (one : Added). all_there kinds (replayed_of one)) added) + length (flat_map (λ (one : Added). all_played kinds (replayed_of one)) added) ≤ 5410 * actions_of added
added_few kinds [] sized replays = omega arith
added_few kinds (one ∷ added) sized replays =
    let there = λ (a : Added). all_there kinds (replayed_of a) in
    let played = λ (a : Added). all_played kinds (replayed_of a) in
    omega (
      arith,
      length-append (there one) (flat_map there added),
      length-append (played one) (flat_map played added),
      sum_by-cons (λ (a : Added). length a.actions.actions) one added,
      game_few kinds one.actions one.occasions sized.0 replays.0,
      added_few kinds added sized.1 replays.1,
    )

pub rows_few : (added : List Added) (held : Held) → IsShareOf added held → weight_of held.rows ≤ 5410 * actions_of added
rows_few added held is =
    let there = λ (a : Added). all_there held.kinds (replayed_of a) in
    let played = λ (a : Added). all_played held.kinds (replayed_of a) in
    let rows_there = sum_by_keys (λ (row : Row). row.shape) (λ (row : Row). row.there) held.rows (λ (c : ℕ). c) (λ (c : ℕ). 1) (flat_map there added)
    (λ shape. omega (arith, is.there shape, count-flat_map (λ c. c == shape) there added)) in
    let rows_played = sum_by_keys (λ (row : Row). row.shape) (λ (row : Row). row.played) held.rows (λ (c : ℕ). c) (λ (c : ℕ). 1) (flat_map played added)
    (λ shape. omega (arith, is.played shape, count-flat_map (λ c. c == shape) played added)) in
    omega (
      arith,
      rows_there,
      rows_played,
      sum_both (λ (row : Row). row.there) (λ (row : Row). row.played) held.rows,
      sum-ones (λ (c : ℕ). 1) (flat_map there added) (λ c. refl),
      sum-ones (λ (c : ℕ). 1) (flat_map played added) (λ c. refl),
      added_few held.kinds added is.sized is.replays,
    )

moves_of_few : (added : List Added) → AreReplays added → sum_by (λ (one : Added). length one.occasions) added ≤ actions_of added
moves_of_few [] replays = omega arith
moves_of_few (one ∷ added) replays =
    omega (
      arith,
      sum_by-cons (λ (a : Added). length a.occasions) one added,
      sum_by-cons (λ (a : Added). length a.actions.actions) one added,
      few_occasions one.actions one.occasions replays.0,
      moves_of_few added replays.1,
    )

-- so counts of a share and of a game are not too large together where both have as many actions as an input at most
pub not_too_large : (added : List Added) (held : Held) (actions : Actions) → IsShareOf added held → IsExtent actions.size →
    actions_of added ≤ 2 ^ 28 → length actions.actions ≤ 2 ^ 28 → IsTooLarge actions held → ⊥
not_too_large added held actions is extent few short large = ⊎_elim
    (λ (heavy : 2 ^ 64 ≤ weight_of held.rows + weight_among large.meetings).
    let rows = rows_few added held is in
    let meetings = meetings_few held.kinds actions large.meetings large.moves extent large.walked in
    absurd (omega (arith, heavy, rows, meetings, few, short)))
    (λ (many : 2 ^ 64 ≤ held.moves + large.moves).
    let walked = large.walked in
    absurd (omega (arith, many, is.moves, walked.moves_counted, moves_of_few added is.replays, few_occasions actions walked.occasions walked.replayed, few, short)))
    large.large
