-- Games that are replayed and counted one after another.
use Rattle.std.proofs.Common.{◌≡◌, ℕ, suc, ◌+◌, ◌≤◌, List, [], ◌∷◌, ◌++◌, length, map, Some, Ok, refl, ap, sym, subst, ◌∙◌, arith, length-append}
use Rattle.std.proofs.lemmas.List.{map-append}
use Rattle.sgf_core.specs.declared.faults.SgfFault.TheVariants as sgf
use Rattle.go_record.specs.Actions.{Actions}
use Rattle.go_record.specs.declared.records.Kind.TheVariants as kind
use Rattle.game_core.specs.Collection.{record_of_tree, games_among}
use Rattle.game_core.specs.Games.{IsGameOf, HasReadAll}
use Rattle.game_core.specs.Faults.{IsGamesFault}
use Rattle.game_core.specs.declared.reports.Report.{Report}
use Rattle.game_core.specs.declared.faults.GamesFault.{GamesFault}
use Rattle.game_core.specs.declared.faults.GamesFault.TheVariants as games_fault
use Rattle.game_core.proofs.OneGame.{games_of, same_games}
use Rattle.game_core.proofs.OneTree.{games_push, trees_push}
use Rattle.shape_core.specs.declared.words.Kinds.{Kinds}
use Rattle.plain_core.specs.declared.counting.Counter.{Counter}
use Rattle.tally_core.specs.Counts.{Replayed}
use Rattle.tally_core.specs.Occasions.{AreOccasions}
use Rattle.tally_core.specs.Collection.{AreReplayed}
use Rattle.tally_core.specs.Counted.{IsCountFault}
use Rattle.tally_core.specs.Faults.{reading_fault}
use Rattle.plain_core.specs.Inner.Counter.{count_in, CountsGame, CountsGames}
use Rattle.plain_core.specs.Inner.Counting.{CountsUpTo, IsWithin, CountsAll}
use Rattle.tally_core.proofs.Games.{replayed-length}
use Rattle.plain_core.proofs.Games.{games_more}

pub replayed-push : (games : List Actions) (replayed : List Replayed) (game : Actions) (one : Replayed) → AreReplayed games replayed →
    one.size ≡ game.size → AreOccasions game one.occasions → AreReplayed (games ++ game ∷ []) (replayed ++ one ∷ [])
replayed-push [] [] game one h size occasions = (size, occasions, tt)
replayed-push (first ∷ games) (other ∷ others) game one h size occasions = (h.0, h.1, replayed-push games others game one h.2 size occasions)
replayed-push [] (other ∷ others) game one h size occasions = absurd h
replayed-push (first ∷ games) [] game one h size occasions = absurd h

-- one game more was counted
pub counts_game : (kinds : Kinds) (bytes : List ℕ) (game at stop : ℕ) (actions : Actions) (before after : Counter) (moves : ℕ) →
    IsGameOf bytes game at stop actions → CountsUpTo kinds bytes game before → CountsGame kinds actions (Some game) (count_in before.counts) (count_in after.counts) moves →
    after.moves ≡ before.moves + moves → CountsUpTo kinds bytes (game + 1) after
counts_game kinds bytes game at stop actions before after moves is counted new all_moves =
    let one : Replayed = record { size = actions.size; occasions = new.occasions } in
    let number : game ≡ length counted.games = counted.numbered ∙ replayed-length (games_of counted.trees) counted.games counted.replayed in
    let same : games_of counted.trees ≡ games_of is.before =
    same_games bytes 0 counted.trees is.before counted.end is.from counted.written is.written (sym counted.numbered ∙ is.numbered) in
    let rs = map record_of_tree is.before in
    let all : games_of (is.before ++ is.tree ∷ []) ≡ games_of is.before ++ actions ∷ [] =
    ap games_among (map-append record_of_tree is.before (is.tree ∷ []) ∙ ap (λ r. rs ++ r ∷ []) is.is_go) ∙ games_push rs (Ok (kind.Go actions)) in
    record {
      trees = is.before ++ is.tree ∷ [];
      end = stop;
      games = counted.games ++ one ∷ [];
      written = trees_push bytes 0 is.from is.before at stop is.tree is.written is.next;
      numbered = ap (λ n. n + 1) is.numbered ∙ sym (length-append (games_of is.before) (actions ∷ [])) ∙ ap length (sym all);
      replayed = subst (λ gs. AreReplayed gs (counted.games ++ one ∷ [])) (sym all)
          (replayed-push (games_of is.before) counted.games actions one (subst (λ gs. AreReplayed gs counted.games) same counted.replayed) refl new.replayed);
      counted = subst (CountsGames kinds (counted.games ++ one ∷ []) (count_in after.counts)) (sym all_moves)
          (games_more kinds counted.games actions game before.moves moves (count_in before.counts) (count_in after.counts) number counted.counted new);
    }

pub within_later : (place later : ℕ) (counter : Counter) → place ≤ later → IsWithin place counter → IsWithin later counter
within_later place later counter fits h = record { moves = omega (arith, h.moves); uses = λ shape. omega (arith, h.uses shape) }

-- no game is left
pub counts_all : (kinds : Kinds) (bytes : List ℕ) (report : Report) (counter : Counter) → HasReadAll bytes report → CountsUpTo kinds bytes report.games counter → CountsAll kinds bytes report counter
counts_all kinds bytes report counter read counted =
    let same : games_of counted.trees ≡ games_of read.trees =
    same_games bytes 0 counted.trees read.trees counted.end read.end counted.written read.written (sym counted.numbered ∙ read.reported.games) in
    record {
      read = read;
      games = counted.games;
      replayed = subst (λ games. AreReplayed games counted.games) same counted.replayed;
      counted = counted.counted;
    }

-- why no next game comes is why the input is not counted
pub count_fault : (bytes : List ℕ) (found : GamesFault) → IsGamesFault bytes found → IsCountFault bytes (reading_fault found)
count_fault bytes games_fault.Memory is = tt
count_fault bytes (games_fault.Sgf sgf.TooLarge) is = is
count_fault bytes (games_fault.Sgf sgf.Memory) is = is.1
count_fault bytes (games_fault.Sgf (sgf.Truncated at)) is = is.1
count_fault bytes (games_fault.Sgf (sgf.BadByte at)) is = is.1
count_fault bytes (games_fault.Sgf (sgf.NoValue at)) is = is.1

-- a report names as many games as were replayed
pub games_reported : (kinds : Kinds) (bytes : List ℕ) (report : Report) (counter : Counter) (h : CountsAll kinds bytes report counter) → length h.games ≡ report.games
games_reported kinds bytes report counter h = sym (h.read.reported.games ∙ replayed-length (games_of h.read.trees) h.games h.replayed)
