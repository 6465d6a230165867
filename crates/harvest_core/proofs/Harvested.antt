-- Shares that were worked from an input and have each of its games once: they give its dictionary.
use Rattle.std.proofs.Common.{◌≡◌, ℕ, ◌+◌, ◌<◌, ◌≤◌, ◌==◌, true, false, cond, suc, List, [], ◌∷◌, ◌++◌, length, map, Some, refl, ap, ap₂, sym, subst, ◌∙◌, arith, add-zero, All}
use Rattle.std.specs.Prelude.{slice_get}
use Rattle.std.specs.List.{AllByRecursion, AllZip}
use Rattle.std.proofs.lemmas.Bool.Decides.{nat_tests}
use Rattle.std.proofs.lemmas.List.{map-append}
use Rattle.std.proofs.lemmas.List.Elements.{All-from_recursion, recursion_from_All}
use Rattle.std.proofs.lemmas.List.Sums.{sum_by-cons}
use Rattle.std.proofs.lemmas.Option.{same_Some, slice_get_within}
use Rattle.sgf_core.specs.Tree.{GameTree}
use Rattle.sgf_core.specs.Next.{HasNoTree}
use Rattle.go_record.specs.Actions.{Actions}
use Rattle.shape_core.specs.declared.words.Kinds.{Kinds}
use Rattle.shape_core.specs.Word.{count_from}
use Rattle.shape_dict.specs.Contents.{Contents}
use Rattle.tally_core.specs.Occasions.{AreOccasions}
use Rattle.tally_core.specs.Counts.{Replayed}
use Rattle.game_core.specs.Collection.{AreTrees}
use Rattle.tally_core.specs.Collection.{AreReplayed}
use Rattle.tally_core.specs.Counted.{IsCounted}
use Rattle.game_core.specs.declared.reports.Report.{Report}
use Rattle.game_core.specs.Games.{HasReadAll}
use Rattle.game_core.proofs.OneGame.{games_of, one_game}
use Rattle.gather_core.specs.Gathering.{AreWithin, HaveGames, IsGathered, all_added, replayed_at, replayed_games}
use Rattle.gather_core.specs.Shares.{Held, Added, replayed_of, IsShareOf}
use Rattle.gather_core.specs.Covering.{Covers, all_games, times_of}
use Rattle.gather_core.proofs.NumberedGames.{numbers_of}
use Rattle.gather_core.proofs.Gathered.{dictionary_of_shares}
use Rattle.harvest_core.specs.Working.{IsGame, IsOfInput}

-- ---- the games that were added are those of the input
-- at its number these games have its record, and it was replayed
abbrev pub IsAt : List Actions → Added → Type 0
IsAt games one = (slice_get games one.game ≡ Some one.actions) × AreOccasions one.actions one.occasions

-- a game, replayed
abbrev IsReplay : Actions → Replayed → Type 0
IsReplay actions replayed = (replayed.size ≡ actions.size) × AreOccasions actions replayed.occasions

each_at : (bytes : List ℕ) (trees : List GameTree) (end : ℕ) (added : List Added) → AreTrees bytes 0 trees end → HasNoTree bytes end →
    AllByRecursion (λ (one : Added). IsGame bytes one.game one.actions) added → AllByRecursion (λ (one : Added). AreOccasions one.actions one.occasions) added →
    AllByRecursion (IsAt (games_of trees)) added
each_at bytes trees end [] written none games replays = tt
each_at bytes trees end (one ∷ added) written none games replays = (
  (one_game bytes trees end one.game games.0.at games.0.end one.actions written none games.0.is_of, replays.0),
  each_at bytes trees end added written none games.1 replays.1,
)

append_at : (games : List Actions) (added more : List Added) → AllByRecursion (IsAt games) added → AllByRecursion (IsAt games) more → AllByRecursion (IsAt games) (added ++ more)
append_at games [] more at all = all
append_at games (one ∷ added) more at all = (at.0, append_at games added more at.1 all)

numbers_within : (games : List Actions) (added : List Added) → AllByRecursion (IsAt games) added → AllByRecursion (λ game. game < length games) (numbers_of added)
numbers_within games [] at = tt
numbers_within games (one ∷ added) at = (slice_get_within games one.game one.actions at.0.0, numbers_within games added at.1)

module _ (bytes : List ℕ) (kinds : Kinds) (trees : List GameTree) (end : ℕ) (written : AreTrees bytes 0 trees end) (none : HasNoTree bytes end) where
  abbrev AreWorked : List Held → Type 0
  AreWorked shares = AllByRecursion (IsOfInput bytes kinds) shares

  pub added_at : (share : Held) (h : IsOfInput bytes kinds share) → AllByRecursion (IsAt (games_of trees)) h.added
  added_at share h =
      each_at bytes trees end h.added written none (recursion_from_All (λ (one : Added). IsGame bytes one.game one.actions) h.added h.games) h.is_of.replays

  share_within : (share : Held) → IsOfInput bytes kinds share → All (λ game. game < length (games_of trees)) share.games
  share_within share h =
      subst (All (λ game. game < length (games_of trees))) (sym h.is_of.games)
      (All-from_recursion (λ game. game < length (games_of trees)) (numbers_of h.added) (numbers_within (games_of trees) h.added (added_at share h)))

  shares_within : (shares : List Held) → AreWorked shares → AllByRecursion (λ (share : Held). All (λ game. game < length (games_of trees)) share.games) shares
  shares_within [] of = tt
  shares_within (share ∷ shares) of = (share_within share of.0, shares_within shares of.1)

  addeds_of : (shares : List Held) → AreWorked shares → List (List Added)
  addeds_of [] of = []
  addeds_of (share ∷ shares) of = of.0.added ∷ addeds_of shares of.1

  each_of : (shares : List Held) (of : AreWorked shares) → AllZip IsShareOf (addeds_of shares of) shares
  unfolding addeds_of
  each_of [] of = tt
  each_of (share ∷ shares) of = (of.0.is_of, each_of shares of.1)

  of_kinds : (shares : List Held) → AreWorked shares → AllByRecursion (λ (share : Held). share.kinds ≡ kinds) shares
  of_kinds [] of = tt
  of_kinds (share ∷ shares) of = (of.0.kinds_are, of_kinds shares of.1)

  all_at : (shares : List Held) (of : AreWorked shares) → AllByRecursion (IsAt (games_of trees)) (all_added (addeds_of shares of))
  unfolding addeds_of
  all_at [] of = tt
  all_at (share ∷ shares) of = append_at (games_of trees) of.0.added (all_added (addeds_of shares of.1)) (added_at share of.0) (all_at shares of.1)

  games_of_all : (shares : List Held) (of : AreWorked shares) → all_games shares ≡ numbers_of (all_added (addeds_of shares of))
  unfolding addeds_of
  games_of_all [] of = refl
  games_of_all (share ∷ shares) of =
      ap₂ (λ (a b : List ℕ). a ++ b) of.0.is_of.games (games_of_all shares of.1) ∙ sym (map-append (λ (one : Added). one.game) of.0.added (all_added (addeds_of shares of.1)))

-- the games of shares that were worked from an input are below the number of its games
pub games_within : (bytes : List ℕ) (kinds : Kinds) (shares : List Held) (report : Report) → All (IsOfInput bytes kinds) shares → HasReadAll bytes report → AreWithin report.games shares
games_within bytes kinds shares report worked read =
    subst (λ n. AreWithin n shares) (sym read.reported.games)
    (All-from_recursion (λ (share : Held). All (λ game. game < length (games_of read.trees)) share.games) shares
    (shares_within bytes kinds read.trees read.end read.written read.no_more shares (recursion_from_All (IsOfInput bytes kinds) shares worked)))

-- ---- in the order of their numbers they are the games of the input, replayed
replay_found : (games : List Actions) (added : List Added) (game : ℕ) (actions : Actions) → AllByRecursion (IsAt games) added → slice_get games game ≡ Some actions →
    1 ≤ times_of (numbers_of added) game → IsReplay actions (replayed_at added game)
replay_found games [] game actions at is some = absurd (omega arith)
replay_found games (one ∷ added) game actions at is some =
    let parts = sum_by-cons (λ (n : ℕ). cond (n == game) 1 0) one.game (numbers_of added) in
    elim (one.game == game) as (λ b. (one.game == game) ≡ b → times_of (numbers_of (one ∷ added)) game ≡ cond b 1 0 + times_of (numbers_of added) game →
    IsReplay actions (cond b (replayed_of one) (replayed_at added game))) [
      | true ↦ λ test p.
          let same : one.game ≡ game = Prim.grind (arith, nat_tests) in
          let record_is : one.actions ≡ actions = same_Some one.actions actions (sym at.0.0 ∙ ap (slice_get games) same ∙ is) in
          (ap (λ (a : Actions). a.size) record_is, subst (λ (a : Actions). AreOccasions a one.occasions) record_is at.0.1)
      | false ↦ λ test p. replay_found games added game actions at.1 is (omega arith)
    ] refl parts

replayed_from : (games : List Actions) (added : List Added) (from : ℕ) (rest : List Actions) → AllByRecursion (IsAt games) added →
    ((game : ℕ) → game < length games → 1 ≤ times_of (numbers_of added) game) → ((k : ℕ) (actions : Actions) → slice_get rest k ≡ Some actions → slice_get games (from + k) ≡ Some actions) →
    AreReplayed rest (map (replayed_at added) (count_from from (length rest)))
replayed_from games added from [] at covers same = tt
replayed_from games added from (first ∷ rest) at covers same =
    let is : slice_get games from ≡ Some first = subst (λ k. slice_get games k ≡ Some first) (add-zero from) (same 0 first refl) in
    let found = replay_found games added from first at is (covers from (slice_get_within games from first is)) in (
      found.0,
      found.1,
      replayed_from games added (suc from) rest at covers
          (λ k actions here. subst (λ g. slice_get games g ≡ Some actions) (let e : from + suc k ≡ suc from + k = omega arith in e) (same (suc k) actions here)),
    )

are_replayed : (games : List Actions) (added : List Added) → AllByRecursion (IsAt games) added → Covers (length games) (numbers_of added) →
    AreReplayed games (replayed_games added (length games))
are_replayed games added at covers =
    replayed_from games added 0 games at (λ game low. let once = covers game low in omega arith)
    (λ k actions is. subst (λ g. slice_get games g ≡ Some actions) (let e : k ≡ 0 + k = omega arith in e) is)

-- shares that were worked from an input and have each of its games once have its games, replayed
pub shares_gathered : (bytes : List ℕ) (kinds : Kinds) (shares : List Held) (report : Report) → All (IsOfInput bytes kinds) shares → (read : HasReadAll bytes report) →
    Covers report.games (all_games shares) → (addeds : List (List Added)) × HaveGames kinds report.games addeds shares
    × AreReplayed (games_of read.trees) (replayed_games (all_added addeds) report.games)
shares_gathered bytes kinds shares report worked read covers =
    let of = recursion_from_All (IsOfInput bytes kinds) shares worked in
    let addeds = addeds_of bytes kinds read.trees read.end read.written read.no_more shares of in
    let at = all_at bytes kinds read.trees read.end read.written read.no_more shares of in
    let many = read.reported.games in
    let numbers : Covers report.games (numbers_of (all_added addeds)) =
    subst (Covers report.games) (games_of_all bytes kinds read.trees read.end read.written read.no_more shares of) covers in (
      addeds,
      record {
        each = each_of bytes kinds read.trees read.end read.written read.no_more shares of;
        of_kinds = All-from_recursion (λ (share : Held). share.kinds ≡ kinds) shares (of_kinds bytes kinds read.trees read.end read.written read.no_more shares of);
        within = games_within bytes kinds shares report worked read;
        covers = covers;
      },
      subst (λ n. AreReplayed (games_of read.trees) (replayed_games (all_added addeds) n)) (sym many)
          (are_replayed (games_of read.trees) (all_added addeds) at (subst (λ n. Covers n (numbers_of (all_added addeds))) many numbers)),
    )

-- and they give its dictionary
pub harvested : (bytes : List ℕ) (kinds : Kinds) (shares : List Held) (report : Report) (contents : Contents) → All (IsOfInput bytes kinds) shares → HasReadAll bytes report →
    Covers report.games (all_games shares) → IsGathered kinds report.games shares contents → IsCounted kinds bytes (record { dictionary = contents; report = report })
harvested bytes kinds shares report contents worked read covers gathered =
    let all = shares_gathered bytes kinds shares report worked read covers in
    record {
      trees = read.trees;
      end = read.end;
      games = replayed_games (all_added all.0) report.games;
      small = read.small;
      written = read.written;
      no_more = read.no_more;
      replayed = all.2;
      dictionary = dictionary_of_shares kinds report.games all.0 shares all.1 contents gathered;
      reported = read.reported;
    }
