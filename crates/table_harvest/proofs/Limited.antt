-- No input is so large that a count of its games is: all its games have at most 2 ^ 28 actions together.
use Rattle.std.proofs.Common.{◌≡◌, ℕ, zero, suc, ◌+◌, ◌*◌, ◌^◌, ◌≤◌, ◌⊎◌, List, [], ◌∷◌, length, Some, ap, sym, subst, arith, zero-add, ⊎_elim, All}
use Rattle.std.specs.Prelude.{slice_get}
use Rattle.std.specs.List.{AllByRecursion}
use Rattle.std.proofs.lemmas.List.Elements.{recursion_from_All, All-weaker}
use Rattle.std.proofs.lemmas.List.Sums.{sum_by-cons}
use Rattle.std.proofs.lemmas.Option.{same_Some}
use Rattle.sgf_core.specs.Tree.{main_line_of}
use Rattle.go_board.specs.Extent.{IsExtent}
use Rattle.go_record.specs.Actions.{Actions}
use Rattle.shape_core.specs.declared.words.Kinds.{Kinds}
use Rattle.game_core.specs.declared.reports.Report.{Report}
use Rattle.harvest_faults.specs.declared.faults.HarvestFault.TheVariants as fault
use Rattle.gather_core.specs.Rows.{there_of, played_of}
use Rattle.gather_core.specs.Gathering.{all_rows, all_moves}
use Rattle.gather_core.specs.Covering.{Covers, all_games}
use Rattle.table_shares.specs.GatherFaults.{IsLargeSum}
use Rattle.gather_core.specs.Shares.{Held, Added, IsShare}
use Rattle.table_shares.specs.Adding.{IsTooLarge}
use Rattle.gather_core.proofs.NumberedGames.{numbers_of}
use Rattle.game_core.specs.Games.{HasReadAll}
use Rattle.job_core.specs.Rising.{Rising, past}
use Rattle.job_core.proofs.Orders.{rising_down}
use Rattle.game_core.proofs.OneGame.{games_of}
use Rattle.harvest_core.specs.Working.{IsGame, IsOfInput, IsWorked}
use Rattle.table_harvest.specs.Working.{IsRefusal}
use Rattle.harvest_core.specs.Harvest.{IsRead}
use Rattle.table_harvest.proofs.Sized.{sized}
use Rattle.harvest_core.proofs.ByWords.{worked_of}
use Rattle.harvest_core.proofs.Harvested.{IsAt, added_at}
use Rattle.table_harvest.proofs.Weighed.{actions_of, not_too_large}
use Rattle.gather_core.proofs.Few.{rows_few}
use Rattle.harvest_core.proofs.FewMoves.{amount_of, input_few, game_few, moves_few}

-- ---- the games of an input
game_sized : (bytes : List ℕ) (game : ℕ) (actions : Actions) → IsGame bytes game actions → IsExtent actions.size
game_sized bytes game actions is = (let of = is.is_of in sized (main_line_of of.tree) actions of.is_go)

-- ---- games whose numbers rise
-- the game is at its number, where the numbers of these records begin with `low`
abbrev IsFrom : ℕ → List Actions → Added → Type 0
IsFrom low games one = (k : ℕ) × (one.game ≡ low + k) × (slice_get games k ≡ Some one.actions)

past_first : (low : ℕ) (first : Actions) (games : List Actions) (one : Added) → suc low ≤ one.game → IsFrom low (first ∷ games) one → IsFrom (suc low) games one
past_first low first games one up (zero, is, at) = absurd (omega (arith, up, is))
past_first low first games one up (suc k, is, at) = (k, omega (arith, is), at)

all_past : (low : ℕ) (first : Actions) (games : List Actions) (added : List Added) (high : ℕ) → Rising (suc low) (numbers_of added) high →
    AllByRecursion (IsFrom low (first ∷ games)) added → AllByRecursion (IsFrom (suc low) games) added
all_past low first games [] high rises at = tt
all_past low first games (one ∷ added) high rises at = (
  past_first low first games one rises.0 at.0,
  all_past low first games added high (rising_down (suc low) (suc one.game) (numbers_of added) high (omega (arith, rises.0)) rises.1) at.1,
)

rising_few : (games : List Actions) (low : ℕ) (added : List Added) (high : ℕ) → Rising low (numbers_of added) high → AllByRecursion (IsFrom low games) added →
    actions_of added ≤ amount_of games
rising_few games low [] high rises at = omega arith
rising_few [] low (one ∷ added) high rises ((k, is, none), others) = absurd cc
rising_few (first ∷ games) low (one ∷ added) high rises ((zero, is, same), others) =
    let later = rising_down (suc low) (suc one.game) (numbers_of added) high (omega (arith, is)) rises.1 in
    omega (
      arith,
      sum_by-cons (λ (a : Added). length a.actions.actions) one added,
      sum_by-cons (λ (a : Actions). length a.actions) first games,
      ap (λ (a : Actions). length a.actions) (same_Some first one.actions same),
      rising_few games (suc low) added high later (all_past low first games added high later others),
    )
rising_few (first ∷ games) low (one ∷ added) high rises ((suc k, is, same), others) =
    let later : Rising (suc low) (numbers_of (one ∷ added)) high = (omega (arith, is), rises.1) in
    omega (
      arith,
      sum_by-cons (λ (a : Actions). length a.actions) first games,
      rising_few games (suc low) (one ∷ added) high later (all_past low first games (one ∷ added) high later ((suc k, is, same), others)),
    )

from_first : (games : List Actions) (added : List Added) → AllByRecursion (IsAt games) added → AllByRecursion (IsFrom 0 games) added
from_first games [] at = tt
from_first games (one ∷ added) at = ((one.game, sym (zero-add one.game), at.0.0), from_first games added at.1)

-- ---- a worker's share
-- what was worked over a table is of the input
pub all_of_input : (bytes : List ℕ) (kinds : Kinds) (shares : List Held) → All (IsWorked bytes kinds) shares → All (IsOfInput bytes kinds) shares
all_of_input bytes kinds shares all = All-weaker (IsWorked bytes kinds) (IsOfInput bytes kinds) (worked_of bytes kinds) shares all

share_few : (bytes : List ℕ) (kinds : Kinds) (share : Held) (report : Report) → HasReadAll bytes report → (h : IsOfInput bytes kinds share) → Rising 0 share.games (past share.games) →
    actions_of h.added ≤ 2 ^ 28
share_few bytes kinds share report read h up =
    let rises = subst (λ games. Rising 0 games (past share.games)) h.is_of.games up in
    let at = added_at bytes kinds read.trees read.end read.written read.no_more share h in
    omega (arith, rising_few (games_of read.trees) 0 h.added (past share.games) rises (from_first (games_of read.trees) h.added at), input_few bytes report read)

-- no game of an input that can be read is refused since a count is too large
pub never_refused : (bytes : List ℕ) (kinds : Kinds) → IsRead bytes → IsRefusal bytes kinds fault.Overflow → ⊥
never_refused bytes kinds (report, read) (game, actions, is, why) =
    let few = game_few bytes game is.at is.end actions is.is_of in
    ⊎_elim
    (λ (large : (share : Held) × IsWorked bytes kinds share × IsTooLarge actions share).
    let h = worked_of bytes kinds large.0 large.1 in
    not_too_large h.added large.0 actions h.is_of
    (game_sized bytes game actions is) (share_few bytes kinds large.0 report read h large.1.rises) (omega (arith, few, read.small)) large.2)
    (λ (long : 2 ^ 64 ≤ 5410 * length actions.actions). absurd (omega (arith, long, few, read.small)))
    why

-- ---- all shares
share_of : (bytes : List ℕ) (kinds : Kinds) (share : Held) → IsWorked bytes kinds share → IsShare share
share_of bytes kinds share h = record { added = h.added; is_of = h.is_of }

-- no sum over shares that have each game of an input once is too large
pub never_large : (bytes : List ℕ) (kinds : Kinds) (shares : List Held) (report : Report) → All (IsWorked bytes kinds) shares → HasReadAll bytes report →
    Covers report.games (all_games shares) → IsLargeSum shares → ⊥
never_large bytes kinds shares report worked read covers large =
    let few = moves_few bytes kinds shares report (all_of_input bytes kinds shares worked) read covers in
    let each = rows_few shares (recursion_from_All IsShare shares (All-weaker (IsWorked bytes kinds) IsShare (share_of bytes kinds) shares worked)) in
    ⊎_elim
    (λ (there : (shape : ℕ) × (2 ^ 64 ≤ there_of (all_rows shares) shape)). absurd (omega (arith, there.1, (each there.0).0, few)))
    (λ (other : ((shape : ℕ) × (2 ^ 64 ≤ played_of (all_rows shares) shape)) ⊎ (2 ^ 64 ≤ all_moves shares)). ⊎_elim
    (λ (played : (shape : ℕ) × (2 ^ 64 ≤ played_of (all_rows shares) shape)). absurd (omega (arith, played.1, (each played.0).1, few)))
    (λ (moves : 2 ^ 64 ≤ all_moves shares). absurd (omega (arith, moves, few)))
    other)
    large
