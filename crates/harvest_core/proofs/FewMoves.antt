-- Games of an input have no more actions than the input has bytes, one of them and all together. So shares that have each
-- game of an input once have few moves.
use Rattle.std.proofs.Common.{◌≡◌, ℕ, ◌+◌, ◌^◌, ◌≤◌, List, [], ◌∷◌, length, map, Result, Ok, Err, refl, arith, All}
use Rattle.std.specs.Prelude.{sum_by}
use Rattle.std.proofs.lemmas.List.Sums.{sum_by-cons}
use Rattle.sgf_core.specs.Tree.{GameTree, main_line_of}
use Rattle.sgf_core.specs.Counts.{value_count}
use Rattle.sgf_core.proofs.Counts.{few as few_values}
use Rattle.go_record.specs.Actions.{Actions}
use Rattle.go_record.specs.declared.faults.RecordFault.{RecordFault}
use Rattle.go_record.specs.declared.records.Kind.{Kind}
use Rattle.go_record.specs.declared.records.Kind.TheVariants as kind
use Rattle.go_record.proofs.Few.{few as few_actions}
use Rattle.shape_core.specs.declared.words.Kinds.{Kinds}
use Rattle.game_core.specs.Collection.{AreTrees, record_of_tree, games_among}
use Rattle.game_core.specs.Games.{IsGameOf, HasReadAll}
use Rattle.game_core.specs.declared.reports.Report.{Report}
use Rattle.game_core.proofs.OneGame.{games_of}
use Rattle.tally_core.specs.Counts.{Replayed}
use Rattle.tally_core.specs.Collection.{AreReplayed}
use Rattle.gather_core.specs.Covering.{Covers, all_games}
use Rattle.gather_core.specs.Gathering.{all_moves, all_added, replayed_games}
use Rattle.gather_core.specs.Shares.{Held}
use Rattle.gather_core.proofs.Few.{few_occasions}
use Rattle.gather_core.proofs.Gathered.{moves_gathered}
use Rattle.harvest_core.specs.Working.{IsOfInput}
use Rattle.harvest_core.proofs.Harvested.{shares_gathered}

-- ---- the games of an input
-- all actions of records
abbrev pub amount_of : List Actions → ℕ
amount_of games = sum_by (λ (a : Actions). length a.actions) games

-- a record in front of others has at most as many actions as its main line has values
amount_more : (most : ℕ) (recorded : Result Kind RecordFault) (records : List (Result Kind RecordFault)) →
    ((game : Actions) → recorded ≡ Ok (kind.Go game) → length game.actions ≤ most) →
    amount_of (games_among (recorded ∷ records)) ≤ most + amount_of (games_among records)
amount_more most (Ok (kind.Go game)) records few = omega (arith, sum_by-cons (λ (a : Actions). length a.actions) game (games_among records), few game refl)
amount_more most (Ok kind.Other) records few = omega arith
amount_more most (Err found) records few = omega arith

-- trees have at most as many actions as bytes
trees_few : (bytes : List ℕ) (from : ℕ) (trees : List GameTree) (end : ℕ) → from ≤ length bytes → AreTrees bytes from trees end →
    (from + amount_of (games_of trees) ≤ end) × (end ≤ length bytes)
trees_few bytes from [] end inside is = (omega (arith, is), omega (arith, is, inside))
trees_few bytes from (tree ∷ trees) end inside (at, next, is, others) =
    let line = main_line_of tree in
    let rest = trees_few bytes next trees end is.in_input others in
    let here = few_values bytes from at next tree is in
    let more = amount_more (value_count line) (record_of_tree tree) (map record_of_tree trees) (λ game recorded. few_actions line game recorded) in
    (omega (arith, is.first.after, here, more, rest.0), rest.1)

pub input_few : (bytes : List ℕ) (report : Report) (read : HasReadAll bytes report) → amount_of (games_of read.trees) ≤ 2 ^ 28
input_few bytes report read =
    let all = trees_few bytes 0 read.trees read.end (omega arith) read.written in
    omega (arith, all.0, all.1, read.small)

pub game_few : (bytes : List ℕ) (game at end : ℕ) (actions : Actions) → IsGameOf bytes game at end actions → length actions.actions ≤ length bytes
game_few bytes game at end actions of =
    let next = of.next in
    omega (arith, few_values bytes of.from at end of.tree next, few_actions (main_line_of of.tree) actions of.is_go, next.in_input)

-- ---- shares
replayed_few : (games : List Actions) (replayed : List Replayed) → AreReplayed games replayed → sum_by (λ (game : Replayed). length game.occasions) replayed ≤ amount_of games
replayed_few [] [] h = omega arith
replayed_few [] (one ∷ others) h = absurd h
replayed_few (game ∷ games) [] h = absurd h
replayed_few (game ∷ games) (one ∷ others) h =
    omega (
      arith,
      sum_by-cons (λ (a : Actions). length a.actions) game games,
      few_occasions game one.occasions h.1,
      sum_by-cons (λ (g : Replayed). length g.occasions) one others,
      replayed_few games others h.2,
    )

-- shares that have each game of an input once
pub moves_few : (bytes : List ℕ) (kinds : Kinds) (shares : List Held) (report : Report) → All (IsOfInput bytes kinds) shares → HasReadAll bytes report →
    Covers report.games (all_games shares) → all_moves shares ≤ 2 ^ 28
moves_few bytes kinds shares report of read covers =
    let all = shares_gathered bytes kinds shares report of read covers in
    let games = replayed_games (all_added all.0) report.games in
    omega (arith, moves_gathered kinds report.games all.0 shares all.1, replayed_few (games_of read.trees) games all.2, input_few bytes report read)
