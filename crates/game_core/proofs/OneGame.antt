-- The game of a number is one.
use Rattle.std.proofs.Common.{◌≡◌, ◌⊎◌, ℕ, ◌<◌, List, [], ◌∷◌, length, map, Result, Ok, Err, Some, refl, ap, sym, subst, ◌∙◌, inl, inr, arith}
use Rattle.std.specs.Prelude.{slice_get}
use Rattle.sgf_core.specs.Tree.{GameTree}
use Rattle.sgf_core.specs.Next.{IsNextTree, HasNoTree}
use Rattle.sgf_core.proofs.OneAnswer.{same_next}
use Rattle.go_record.specs.Actions.{Actions}
use Rattle.go_record.specs.declared.records.Kind.{Kind}
use Rattle.go_record.specs.declared.records.Kind.TheVariants as kind
use Rattle.go_record.specs.declared.faults.RecordFault.{RecordFault}
use Rattle.game_core.specs.Collection.{AreTrees, record_of_tree, games_among}
use Rattle.game_core.specs.Games.{IsGameOf}

-- the games of these trees
abbrev pub games_of : List GameTree → List Actions
games_of trees = games_among (map record_of_tree trees)

-- the trees end where no tree is left, or after the game
abbrev Reaches : List ℕ → List GameTree → ℕ → List GameTree → Type 0
Reaches bytes trees end before = HasNoTree bytes end ⊎ (length (games_of before) < length (games_of trees))

-- a record in front of both lists
one_more : (recorded : Result Kind RecordFault) (records others : List (Result Kind RecordFault)) (actions : Actions) →
    slice_get (games_among records) (length (games_among others)) ≡ Some actions →
    slice_get (games_among (recorded ∷ records)) (length (games_among (recorded ∷ others))) ≡ Some actions
one_more (Ok (kind.Go game)) records others actions is = is
one_more (Ok kind.Other) records others actions is = is
one_more (Err found) records others actions is = is

fewer : (recorded : Result Kind RecordFault) (records others : List (Result Kind RecordFault)) →
    length (games_among (recorded ∷ others)) < length (games_among (recorded ∷ records)) →
    length (games_among others) < length (games_among records)
fewer (Ok (kind.Go game)) records others less = omega arith
fewer (Ok kind.Other) records others less = less
fewer (Err found) records others less = less

reaches : (bytes : List ℕ) (tree : GameTree) (trees before : List GameTree) (end : ℕ) → Reaches bytes (tree ∷ trees) end (tree ∷ before) → Reaches bytes trees end before
reaches bytes tree trees before end (inl none) = inl none
reaches bytes tree trees before end (inr less) = inr (fewer (record_of_tree tree) (map record_of_tree trees) (map record_of_tree before) less)

-- no tree is next where none is left
not_next : (bytes : List ℕ) (from at stop : ℕ) (tree : GameTree) → IsNextTree bytes from at stop tree → HasNoTree bytes from → ⊥
not_next bytes from at stop tree next none = none at next.first.after next.first.begins

game_at : (bytes : List ℕ) (from : ℕ) (trees before : List GameTree) (end middle at stop : ℕ) (tree : GameTree) (actions : Actions) →
    AreTrees bytes from trees end → AreTrees bytes from before middle → IsNextTree bytes middle at stop tree →
    record_of_tree tree ≡ Ok (kind.Go actions) → Reaches bytes trees end before →
    slice_get (games_of trees) (length (games_of before)) ≡ Some actions
game_at bytes from [] [] end middle at stop tree actions a b next is (inl none) =
    absurd (not_next bytes middle at stop tree next (subst (HasNoTree bytes) (sym a ∙ b) none))
game_at bytes from [] (first ∷ before) end middle at stop tree actions a b next is (inl none) =
    absurd (not_next bytes from b.0 b.1 first b.2 (subst (HasNoTree bytes) (sym a) none))
game_at bytes from [] before end middle at stop tree actions a b next is (inr less) = absurd (omega arith)
game_at bytes from (first ∷ trees) [] end middle at stop tree actions a b next is reach =
    let same = same_next bytes from a.0 a.1 first at stop tree a.2 (subst (λ f. IsNextTree bytes f at stop tree) (sym b) next) in
    ap (λ r. slice_get (games_among (r ∷ map record_of_tree trees)) 0) (ap record_of_tree same.2 ∙ is)
game_at bytes from (first ∷ trees) (other ∷ before) end middle at stop tree actions a b next is reach =
    let same = same_next bytes from a.0 a.1 first b.0 b.1 other a.2 b.2 in
    let both : Reaches bytes (first ∷ trees) end (first ∷ before) = subst (λ t. Reaches bytes (first ∷ trees) end (t ∷ before)) (sym same.2) reach in
    subst (λ t. slice_get (games_of (first ∷ trees)) (length (games_of (t ∷ before))) ≡ Some actions) same.2
    (one_more (record_of_tree first) (map record_of_tree trees) (map record_of_tree before) actions
    (game_at bytes a.1 trees before end middle at stop tree actions a.3 (subst (λ f. AreTrees bytes f before middle) (sym same.1) b.3) next is
    (reaches bytes first trees before end both)))

-- where no tree is left after these, the record of a job is that of the game of its number
pub one_game : (bytes : List ℕ) (trees : List GameTree) (end game at stop : ℕ) (actions : Actions) →
    AreTrees bytes 0 trees end → HasNoTree bytes end → IsGameOf bytes game at stop actions → slice_get (games_of trees) game ≡ Some actions
one_game bytes trees end game at stop actions written none is =
    subst (λ n. slice_get (games_of trees) n ≡ Some actions) (sym is.numbered)
    (game_at bytes 0 trees is.before end is.from at stop is.tree actions written is.written is.next is.is_go (inl none))

-- the same among the first trees, where they have a game of that number
pub one_game_so_far : (bytes : List ℕ) (trees : List GameTree) (end game at stop : ℕ) (actions : Actions) →
    AreTrees bytes 0 trees end → game < length (games_of trees) → IsGameOf bytes game at stop actions → slice_get (games_of trees) game ≡ Some actions
one_game_so_far bytes trees end game at stop actions written less is =
    subst (λ n. slice_get (games_of trees) n ≡ Some actions) (sym is.numbered)
    (game_at bytes 0 trees is.before end is.from at stop is.tree actions written is.written is.next is.is_go
    (inr (subst (λ n. n < length (games_of trees)) is.numbered less)))

-- a record in front of both lists changes nothing in whether they have as many games, and the same ones
pub as_many : (recorded : Result Kind RecordFault) (records others : List (Result Kind RecordFault)) →
    length (games_among (recorded ∷ records)) ≡ length (games_among (recorded ∷ others)) → length (games_among records) ≡ length (games_among others)
as_many (Ok (kind.Go game)) records others same = omega (arith, same)
as_many (Ok kind.Other) records others same = same
as_many (Err found) records others same = same

same_more : (recorded : Result Kind RecordFault) (records others : List (Result Kind RecordFault)) → games_among records ≡ games_among others →
    games_among (recorded ∷ records) ≡ games_among (recorded ∷ others)
same_more (Ok (kind.Go game)) records others same = ap (λ games. game ∷ games) same
same_more (Ok kind.Other) records others same = same
same_more (Err found) records others same = same

no_games : (games : List Actions) → 0 ≡ length games → [] ≡ games
no_games [] none = refl
no_games (game ∷ games) none = absurd (omega (arith, none))

-- where the first trees of an input have as many games either way, they have the same ones
pub same_games : (bytes : List ℕ) (from : ℕ) (trees others : List GameTree) (end stop : ℕ) → AreTrees bytes from trees end → AreTrees bytes from others stop →
    length (games_of trees) ≡ length (games_of others) → games_of trees ≡ games_of others
same_games bytes from [] others end stop a b same = no_games (games_of others) same
same_games bytes from (tree ∷ trees) [] end stop a b same = sym (no_games (games_of (tree ∷ trees)) (sym same))
same_games bytes from (tree ∷ trees) (other ∷ others) end stop a b same =
    let one = same_next bytes from a.0 a.1 tree b.0 b.1 other a.2 b.2 in
    let r = record_of_tree tree in
    let here : r ≡ record_of_tree other = ap record_of_tree one.2 in
    let many : length (games_among (r ∷ map record_of_tree trees)) ≡ length (games_among (r ∷ map record_of_tree others)) =
    same ∙ ap (λ q. length (games_among (q ∷ map record_of_tree others))) (sym here) in
    same_more r (map record_of_tree trees) (map record_of_tree others)
    (same_games bytes a.1 trees others end stop a.3 (subst (λ f. AreTrees bytes f others stop) (sym one.1) b.3) (as_many r (map record_of_tree trees) (map record_of_tree others) many))
    ∙ ap (λ q. games_among (q ∷ map record_of_tree others)) here
