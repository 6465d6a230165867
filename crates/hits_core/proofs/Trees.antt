-- Games of trees, one game after another.
use Rattle.std.proofs.Common.{◌≡◌, ℕ, ◌+◌, List, [], ◌∷◌, ◌++◌, length, map, Result, Ok, Err, refl, ap, ap₂, sym, subst, ◌∙◌, arith, append_assoc, length-append}
use Rattle.std.proofs.lemmas.List.{append-nil}
use Rattle.sgf_core.specs.Tree.{GameTree}
use Rattle.sgf_core.specs.Next.{IsNextTree}
use Rattle.sgf_core.specs.declared.faults.SgfFault.TheVariants as sgf
use Rattle.sgf_core.proofs.OneAnswer.{same_next}
use Rattle.go_record.specs.Actions.{Actions}
use Rattle.go_record.specs.declared.records.Kind.{Kind}
use Rattle.go_record.specs.declared.records.Kind.TheVariants as kind
use Rattle.go_record.specs.declared.faults.RecordFault.{RecordFault}
use Rattle.game_core.specs.Collection.{AreTrees, record_of_tree, games_among}
use Rattle.game_core.specs.Games.{IsGameOf}
use Rattle.game_core.specs.Games as of_core
use Rattle.game_core.specs.Faults.{IsGamesFault}
use Rattle.game_core.specs.declared.faults.GamesFault.{GamesFault}
use Rattle.game_core.specs.declared.faults.GamesFault.TheVariants as games_fault
use Rattle.game_core.specs.declared.reports.Report.{Report}
use Rattle.game_core.proofs.OneGame.{games_of, as_many}
use Rattle.tally_core.specs.Faults.{reading_fault}
use Rattle.hits_core.specs.declared.games.Game.{Game}
use Rattle.hits_core.specs.Hits.{game_of, AreGames}
use Rattle.hits_core.specs.Inner.Reading.{ReadsUpTo, HasReadAll, IsReadFault}

-- a tree is as many games either way
pub one-game : (recorded : Result Kind RecordFault) (number at : ℕ) → length (game_of recorded number at) ≡ length (games_among (recorded ∷ []))
one-game (Ok (kind.Go game)) number at = refl
one-game (Ok kind.Other) number at = refl
one-game (Err found) number at = refl

pub games-are-of-trees : (bytes : List ℕ) (number from : ℕ) (trees : List GameTree) (end : ℕ) (games : List Game) → AreGames bytes number from trees end games → AreTrees bytes from trees end
games-are-of-trees bytes number from [] end games h = h.0
games-are-of-trees bytes number from (tree ∷ trees) end games h =
    (h.0, h.1, h.3, games-are-of-trees bytes (number + length (games_among (record_of_tree tree ∷ []))) h.1 trees end h.2 h.4)

-- the games of a tree in front are counted apart
counted-apart : (recorded : Result Kind RecordFault) (records : List (Result Kind RecordFault)) →
    length (games_among (recorded ∷ records)) ≡ length (games_among (recorded ∷ [])) + length (games_among records)
counted-apart (Ok (kind.Go game)) records = omega arith
counted-apart (Ok kind.Other) records = omega arith
counted-apart (Err found) records = omega arith

-- there are as many games as the trees are
number-of-games : (bytes : List ℕ) (number from : ℕ) (trees : List GameTree) (end : ℕ) (games : List Game) → AreGames bytes number from trees end games → length games ≡ length (games_of trees)
number-of-games bytes number from [] end games h = ap length h.1
number-of-games bytes number from (tree ∷ trees) end games h =
    let r = record_of_tree tree in
    let rest = number-of-games bytes (number + length (games_among (r ∷ []))) h.1 trees end h.2 h.4 in
    ap length h.5 ∙ length-append (game_of r number h.0) h.2 ∙ ap₂ (λ m n. m + n) (one-game r number h.0) rest ∙ sym (counted-apart r (map record_of_tree trees))

none-in-front : (recorded : Result Kind RecordFault) (records : List (Result Kind RecordFault)) (number at : ℕ) → length (games_among (recorded ∷ records)) ≡ 0 →
    (game_of recorded number at ≡ []) × (length (games_among records) ≡ 0)
none-in-front (Ok (kind.Go game)) records number at none = absurd (omega (arith, none))
none-in-front (Ok kind.Other) records number at none = (refl, none)
none-in-front (Err found) records number at none = (refl, none)

no-games : (bytes : List ℕ) (number from : ℕ) (trees : List GameTree) (end : ℕ) → AreTrees bytes from trees end → length (games_of trees) ≡ 0 → AreGames bytes number from trees end []
no-games bytes number from [] end h none = (h, refl)
no-games bytes number from (tree ∷ trees) end h none =
    let r = record_of_tree tree in
    let front = none-in-front r (map record_of_tree trees) number h.0 none in
    (h.0, h.1, [], h.2, no-games bytes (number + length (games_among (r ∷ []))) h.1 trees end h.3 front.1, sym (ap (λ games. games ++ []) front.0))

empty : (games : List Game) → length games ≡ 0 → games ≡ []
empty [] none = refl
empty (game ∷ games) none = absurd (omega (arith, none))

-- where the first trees of an input have as many games either way, these are the games of both
pub other-trees : (bytes : List ℕ) (number from : ℕ) (trees others : List GameTree) (end stop : ℕ) (games : List Game) → AreGames bytes number from trees end games →
    AreTrees bytes from others stop → length (games_of trees) ≡ length (games_of others) → AreGames bytes number from others stop games
other-trees bytes number from [] others end stop games h is same =
    subst (AreGames bytes number from others stop) (sym h.1) (no-games bytes number from others stop is (sym same))
other-trees bytes number from (tree ∷ trees) [] end stop games h is same =
    (is, empty games (number-of-games bytes number from (tree ∷ trees) end games h ∙ same))
other-trees bytes number from (tree ∷ trees) (other ∷ others) end stop games h is same =
    let one = same_next bytes from h.0 h.1 tree is.0 is.1 other h.3 is.2 in
    let r = record_of_tree tree in
    let many : length (games_of (tree ∷ trees)) ≡ length (games_of (tree ∷ others)) = same ∙ ap (λ q. length (games_of (q ∷ others))) (sym one.2) in
    subst (λ q. AreGames bytes number from (q ∷ others) stop games) one.2 (
      h.0,
      h.1,
      h.2,
      h.3,
      other-trees bytes (number + length (games_among (r ∷ []))) h.1 trees others end stop h.2 h.4 (subst (λ f. AreTrees bytes f others stop) (sym one.1) is.3)
          (as_many r (map record_of_tree trees) (map record_of_tree others) many),
      h.5,
    )

-- a tree more was read
games-push : (bytes : List ℕ) (number from : ℕ) (trees : List GameTree) (end : ℕ) (games : List Game) (at next : ℕ) (tree : GameTree) → AreGames bytes number from trees end games →
    IsNextTree bytes end at next tree → AreGames bytes number from (trees ++ tree ∷ []) next (games ++ game_of (record_of_tree tree) (number + length games) at)
games-push bytes number from [] end games at next tree h is = (
  at,
  next,
  [],
  subst (λ place. IsNextTree bytes place at next tree) (sym h.0) is,
  (refl, refl),
  ap (λ gs. gs ++ game_of (record_of_tree tree) (number + length gs) at) h.1
      ∙ ap (λ n. game_of (record_of_tree tree) n at) (omega arith)
      ∙ sym (append-nil (game_of (record_of_tree tree) number at)),
)
games-push bytes number from (first ∷ trees) end games at next tree h is =
    let recorded = record_of_tree first in
    let one = length (games_among (recorded ∷ [])) in
    let rest = games-push bytes (number + one) h.1 trees end h.2 at next tree h.4 is in
    let count : number + one + length h.2 ≡ number + length games =
    omega (arith, ap length h.5, length-append (game_of recorded number h.0) h.2, one-game recorded number h.0) in (
      h.0,
      h.1,
      h.2 ++ game_of (record_of_tree tree) (number + one + length h.2) at,
      h.3,
      rest,
      ap₂ (λ gs n. gs ++ game_of (record_of_tree tree) n at) h.5 (sym count)
          ∙ append_assoc (game_of recorded number h.0) h.2 (game_of (record_of_tree tree) (number + one + length h.2) at),
    )

pub reads-none : (bytes : List ℕ) (first : ℕ) → ReadsUpTo bytes first 0 []
reads-none bytes first = record { trees = []; of_trees = (refl, refl) }

-- a game more was read
pub reads-on : (bytes : List ℕ) (first from : ℕ) (games new : List Game) (game number at stop : ℕ) (actions : Actions) → ReadsUpTo bytes first from games → IsGameOf bytes game at stop actions →
    game ≡ length games → number ≡ first + game → new ≡ games ++ record { number = number; place = at; recorded = actions } ∷ [] → ReadsUpTo bytes first stop new
reads-on bytes first from games new game number at stop actions reads is counted numbered grown =
    let many = number-of-games bytes first 0 reads.trees from games reads.of_trees in
    let before = other-trees bytes first 0 reads.trees is.before from is.from games reads.of_trees is.written (sym many ∙ sym counted ∙ is.numbered) in
    let same : number ≡ first + length games = omega (arith, numbered, counted) in
    record {
      trees = is.before ++ is.tree ∷ [];
      of_trees = subst (AreGames bytes first 0 (is.before ++ is.tree ∷ []) stop)
          (sym (grown ∙ ap (λ n. games ++ record { number = n; place = at; recorded = actions } ∷ []) same ∙ ap (λ r. games ++ game_of r (first + length games) at) (sym is.is_go)))
          (games-push bytes first 0 is.before is.from games at stop is.tree before is.next);
    }

-- no game is left
pub reads-all : (bytes : List ℕ) (first from : ℕ) (games : List Game) (report : Report) → ReadsUpTo bytes first from games → of_core.HasReadAll bytes report → report.games ≡ length games → HasReadAll bytes first games report
reads-all bytes first from games report reads all number =
    let many = number-of-games bytes first 0 reads.trees from games reads.of_trees in
    record {
      few = all.small;
      end = all.end;
      read = record {
        trees = all.trees;
        of_trees = other-trees bytes first 0 reads.trees all.trees from all.end games reads.of_trees all.written (sym many ∙ sym number ∙ all.reported.games);
      };
      no_more = all.no_more;
      reported = all;
    }

-- why no next game comes is why the input was not read
pub read-fault : (bytes : List ℕ) (found : GamesFault) → IsGamesFault bytes found → IsReadFault bytes (reading_fault found)
read-fault bytes games_fault.Memory is = tt
read-fault bytes (games_fault.Sgf sgf.TooLarge) is = is
read-fault bytes (games_fault.Sgf sgf.Memory) is = is
read-fault bytes (games_fault.Sgf (sgf.Truncated at)) is = is
read-fault bytes (games_fault.Sgf (sgf.BadByte at)) is = is
read-fault bytes (games_fault.Sgf (sgf.NoValue at)) is = is
