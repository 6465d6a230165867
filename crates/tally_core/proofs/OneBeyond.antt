-- The pattern with which patterns are first more than some number is one.
use Rattle.std.proofs.Common.{◌≡◌, ◌⊎◌, inl, inr, ⊎_elim, ℕ, zero, suc, ◌+◌, ◌<◌, ◌==◌, ◌||◌, nat_lt, Bool, true, false, not, cond, List, [], ◌∷◌, ◌++◌, length, map, get_or, All, Option, Some, None, Result, Ok, Err, refl, ap, ap₂, sym, subst, ◌∙◌, append_assoc, arith}
use Rattle.std.specs.Prelude.{slice_get, filter}
use Rattle.std.specs.List.{flat_map, position_or_len}
use Rattle.std.proofs.lemmas.Bool.Decides.{nat_tests}
use Rattle.std.proofs.lemmas.List.Concat.{flat_map-append}
use Rattle.std.proofs.lemmas.List.Elements.{All-head, All-tail}
use Rattle.sgf_core.specs.Tree.{GameTree, main_line_of}
use Rattle.sgf_core.specs.Next.{HasNoTree}
use Rattle.sgf_core.proofs.OneAnswer.{same_next}
use Rattle.go_board.specs.Extent.{Extent}
use Rattle.go_board.specs.Position.{Position, AreSame}
use Rattle.go_board.specs.declared.points.Colour.{Colour}
use Rattle.go_board.specs.declared.points.Point.{Point}
use Rattle.go_record.specs.Actions.{Actions, IsActionOn, AreOnBoard}
use Rattle.go_record.specs.declared.actions.Action.{Action}
use Rattle.go_record.specs.declared.actions.Action.TheVariants as action
use Rattle.go_record.specs.declared.faults.RecordFault.{RecordFault}
use Rattle.go_record.specs.declared.records.Kind.{Kind}
use Rattle.go_record.specs.declared.records.Kind.TheVariants as kind
use Rattle.go_record.proofs.OnBoard.{is_on_board}
use Rattle.game_core.specs.Collection.{AreTrees, record_of_tree, games_among}
use Rattle.shape_core.specs.declared.words.Kind.{Kind as PatternKind}
use Rattle.shape_core.specs.declared.words.Kinds.{Kinds}
use Rattle.tally_core.specs.Beyond.{patterns_in, IsFirstBeyond, HasAtMost}
use Rattle.tally_core.specs.Collection.{AreReplayed}
use Rattle.tally_core.specs.Counted.{HasMore}
use Rattle.tally_core.specs.Counts.{Replayed, kinds_of, patterns_at, patterns_there, there_in, points_of}
use Rattle.tally_core.specs.Games.{there_sum, first_game}
use Rattle.tally_core.specs.Occasions.{Occasion, is_empty, occasion_of, HasOccasions, AreOccasions}
use Rattle.tally_core.specs.Walk.{once_each}
use Rattle.tally_core.specs.Inner.Times.{times_in}
use Rattle.tally_core.proofs.Different.{different_few}
use Rattle.tally_core.proofs.GamesMet.{there-none}
use Rattle.tally_core.proofs.Once.{is_in, in_once, once_append, has, has-is}
use Rattle.tally_core.proofs.SamePositions.{HaveOneResult, does-same, patterns-same, empties-same}
use Rattle.tally_core.proofs.Skipped.{points-on}

-- ---- a game has its patterns in one order

module _ (one_result : HaveOneResult) (which : List PatternKind) where
  -- an occasion has
  one-occasion : (size : Extent) (p q : Position) (mover : Colour) (at : Point) → AreSame size p q →
      patterns_there which size (record { position = p; mover = mover; at = at }) ≡ patterns_there which size (record { position = q; mover = mover; at = at })
  one-occasion size p q mover at same =
      ap (flat_map (patterns_at which size p mover)) (empties-same size p q (points_of size) same (points-on size))
      ∙ some-points (filter (λ here. is_empty (q here)) (points_of size))
    where
      some-points : (points : List Point) → flat_map (patterns_at which size p mover) points ≡ flat_map (patterns_at which size q mover) points
      some-points [] = refl
      some-points (here ∷ points) = ap₂ (λ a b. a ++ b) (patterns-same which size p q mover here same) (some-points points)

  -- an action has
  one-action : (size : Extent) (p q : Position) (act : Action) → AreSame size p q → IsActionOn size act →
      flat_map (patterns_there which size) (occasion_of p act) ≡ flat_map (patterns_there which size) (occasion_of q act)
  one-action size p q (action.Set low high stone) same on = refl
  one-action size p q (action.Pass mover) same on = refl
  one-action size p q (action.Move mover at) same on =
      ap (λ b. flat_map (patterns_there which size) (cond b (record { position = p; mover = mover; at = at } ∷ []) [])) (ap is_empty (same at on))
      ∙ by_test (is_empty (q at))
    where
      by_test : (b : Bool) → flat_map (patterns_there which size) (cond b (record { position = p; mover = mover; at = at } ∷ []) [])
          ≡ flat_map (patterns_there which size) (cond b (record { position = q; mover = mover; at = at } ∷ []) [])
      by_test false = refl
      by_test true = ap (λ ps. ps ++ []) (one-occasion size p q mover at same)

  -- all actions have
  all-actions : (size : Extent) (actions : List Action) (p q : Position) (occasions others : List Occasion) → AreSame size p q → All (IsActionOn size) actions →
      HasOccasions size actions p occasions → HasOccasions size actions q others → flat_map (patterns_there which size) occasions ≡ flat_map (patterns_there which size) others
  all-actions size [] p q occasions others same on h k = ap (flat_map (patterns_there which size)) h ∙ sym (ap (flat_map (patterns_there which size)) k)
  all-actions size (act ∷ actions) p q occasions others same on h k =
      let patterns = flat_map (patterns_there which size) in
      let now = All-head (IsActionOn size) act actions on in
      let rest = all-actions size actions h.0 k.0 h.1 k.1 (does-same one_result size act p q h.0 k.0 now same h.2 k.2) (All-tail (IsActionOn size) act actions on) h.3 k.3 in
      ap patterns h.4
      ∙ flat_map-append (patterns_there which size) (occasion_of p act) h.1
      ∙ ap₂ (λ a b. a ++ b) (one-action size p q act same now) rest
      ∙ sym (flat_map-append (patterns_there which size) (occasion_of q act) k.1)
      ∙ sym (ap patterns k.4)

  -- a game has
  pub one-order : (game : Actions) (one other : Replayed) → AreOnBoard game → one.size ≡ game.size → other.size ≡ game.size →
      AreOccasions game one.occasions → AreOccasions game other.occasions →
      flat_map (patterns_there which one.size) one.occasions ≡ flat_map (patterns_there which other.size) other.occasions
  one-order game one other on sized sized_too h k =
      ap (λ (s : Extent). flat_map (patterns_there which s) one.occasions) sized
      ∙ all-actions game.size game.actions h.start k.start one.occasions other.occasions (λ at at_on. h.empty at at_on ∙ sym (k.empty at at_on)) on h.replayed k.replayed
      ∙ ap (λ (s : Extent). flat_map (patterns_there which s) other.occasions) (sym sized_too)

-- ---- the games of the first trees, and of more

-- the patterns of games, game by game
abbrev pub by_game : Kinds → List Replayed → List (List ℕ)
by_game kinds games = map (λ (g : Replayed). flat_map (patterns_there (kinds_of kinds) g.size) g.occasions) games

-- the second list begins with the first
abbrev pub IsFront : List (List ℕ) → List (List ℕ) → Type 0
IsFront front all = (rest : List (List ℕ)) × (all ≡ front ++ rest)

abbrev AreFronts : List (List ℕ) → List (List ℕ) → Type 0
AreFronts one other = IsFront one other ⊎ IsFront other one

front-cons : (ps : List ℕ) (one other : List (List ℕ)) → IsFront one other → IsFront (ps ∷ one) (ps ∷ other)
front-cons ps one other h = (h.0, ap (λ l. ps ∷ l) h.1)

fronts-cons : (ps : List ℕ) (one other : List (List ℕ)) → AreFronts one other → AreFronts (ps ∷ one) (ps ∷ other)
fronts-cons ps one other (inl h) = inl (front-cons ps one other h)
fronts-cons ps one other (inr h) = inr (front-cons ps other one h)

abbrev games_of : List GameTree → List Actions
games_of trees = games_among (map record_of_tree trees)

module _ (one_result : HaveOneResult) (kinds : Kinds) where
  -- a tree in front of both, where the lists are in some relation
  tree-more : (R : List (List ℕ) → List (List ℕ) → Type 0) → ((ps : List ℕ) (one other : List (List ℕ)) → R one other → R (ps ∷ one) (ps ∷ other)) →
      (recorded : Result Kind RecordFault) (records others : List (Result Kind RecordFault)) (games replayed : List Replayed) →
      ((game : Actions) → recorded ≡ Ok (kind.Go game) → AreOnBoard game) →
      AreReplayed (games_among (recorded ∷ records)) games → AreReplayed (games_among (recorded ∷ others)) replayed →
      ((gs rs : List Replayed) → AreReplayed (games_among records) gs → AreReplayed (games_among others) rs → R (by_game kinds gs) (by_game kinds rs)) →
      R (by_game kinds games) (by_game kinds replayed)
  tree-more R more (Ok kind.Other) records others games replayed on h k rest = rest games replayed h k
  tree-more R more (Err found) records others games replayed on h k rest = rest games replayed h k
  tree-more R more (Ok (kind.Go game)) records others [] replayed on h k rest = absurd h
  tree-more R more (Ok (kind.Go game)) records others (one ∷ games) [] on h k rest = absurd k
  tree-more R more (Ok (kind.Go game)) records others (one ∷ games) (other ∷ replayed) on h k rest =
      let ps = flat_map (patterns_there (kinds_of kinds) one.size) one.occasions in
      subst (λ qs. R (ps ∷ by_game kinds games) (qs ∷ by_game kinds replayed))
      (one-order one_result (kinds_of kinds) game one other (on game refl) h.0 k.0 h.1 k.1)
      (more ps (by_game kinds games) (by_game kinds replayed) (rest games replayed h.2 k.2))

  -- of the first trees of an input, some and some, either games come first
  fronts : (bytes : List ℕ) (from end stop : ℕ) (trees others : List GameTree) (games replayed : List Replayed) → AreTrees bytes from trees end → AreTrees bytes from others stop →
      AreReplayed (games_of trees) games → AreReplayed (games_of others) replayed → AreFronts (by_game kinds games) (by_game kinds replayed)
  fronts bytes from end stop [] others [] replayed a b h k = inl (by_game kinds replayed, refl)
  fronts bytes from end stop [] others (one ∷ games) replayed a b h k = absurd h
  fronts bytes from end stop (tree ∷ trees) [] games [] a b h k = inr (by_game kinds games, refl)
  fronts bytes from end stop (tree ∷ trees) [] games (one ∷ replayed) a b h k = absurd k
  fronts bytes from end stop (tree ∷ trees) (other ∷ others) games replayed a b h k =
      let same = same_next bytes from a.0 a.1 tree b.0 b.1 other a.2 b.2 in
      tree-more AreFronts fronts-cons (record_of_tree tree) (map record_of_tree trees) (map record_of_tree others) games replayed
      (λ game is. is_on_board (main_line_of tree) game is) h
      (subst (λ (t : GameTree). AreReplayed (games_among (record_of_tree t ∷ map record_of_tree others)) replayed) (sym same.2) k)
      (λ gs rs hs ks. fronts bytes a.1 end stop trees others gs rs a.3 (subst (λ f. AreTrees bytes f others stop) (sym same.1) b.3) hs ks)

  -- where no tree is left after the second, the first are its front
  front : (bytes : List ℕ) (from end stop : ℕ) (trees others : List GameTree) (games replayed : List Replayed) → AreTrees bytes from trees end → AreTrees bytes from others stop →
      HasNoTree bytes stop → AreReplayed (games_of trees) games → AreReplayed (games_of others) replayed → IsFront (by_game kinds games) (by_game kinds replayed)
  front bytes from end stop [] others [] replayed a b none h k = (by_game kinds replayed, refl)
  front bytes from end stop [] others (one ∷ games) replayed a b none h k = absurd h
  front bytes from end stop (tree ∷ trees) [] games replayed a b none h k =
      absurd (let next = a.2 in subst (HasNoTree bytes) (sym b) none a.0 next.first.after next.first.begins)
  front bytes from end stop (tree ∷ trees) (other ∷ others) games replayed a b none h k =
      let same = same_next bytes from a.0 a.1 tree b.0 b.1 other a.2 b.2 in
      tree-more IsFront front-cons (record_of_tree tree) (map record_of_tree trees) (map record_of_tree others) games replayed
      (λ game is. is_on_board (main_line_of tree) game is) h
      (subst (λ (t : GameTree). AreReplayed (games_among (record_of_tree t ∷ map record_of_tree others)) replayed) (sym same.2) k)
      (λ gs rs hs ks. front bytes a.1 end stop trees others gs rs a.3 (subst (λ f. AreTrees bytes f others stop) (sym same.1) b.3) none hs ks)

-- ---- what a longer list says

abbrev all_of : List (List ℕ) → List ℕ
all_of [] = []
all_of (ps ∷ games) = ps ++ all_of games

all-append : (one other : List (List ℕ)) → all_of (one ++ other) ≡ all_of one ++ all_of other
all-append [] other = refl
all-append (ps ∷ one) other = ap (λ l. ps ++ l) (all-append one other) ∙ sym (append_assoc ps (all_of one) (all_of other))

patterns-are : (kinds : Kinds) (games : List Replayed) → patterns_in kinds games ≡ all_of (by_game kinds games)
patterns-are kinds [] = refl
patterns-are kinds (game ∷ games) = ap (λ l. flat_map (patterns_there (kinds_of kinds) game.size) game.occasions ++ l) (patterns-are kinds games)

get-front : (xs ys : List ℕ) (n w : ℕ) → slice_get xs n ≡ Some w → slice_get (xs ++ ys) n ≡ Some w
get-front [] ys n w is = absurd (cc)
get-front (x ∷ xs) ys zero w is = is
get-front (x ∷ xs) ys (suc n) w is = get-front xs ys n w is

get-inside : (xs : List ℕ) (n w : ℕ) → slice_get xs n ≡ Some w → n < length xs
get-inside [] n w is = absurd (cc)
get-inside (x ∷ xs) zero w is = omega arith
get-inside (x ∷ xs) (suc n) w is = omega (arith, get-inside xs n w is)

-- the word that comes after some others
abbrev word_at : List (List ℕ) → ℕ → Option ℕ
word_at games most = slice_get (once_each (all_of games)) most

word-stays : (one other : List (List ℕ)) (most w : ℕ) → IsFront one other → word_at one most ≡ Some w → word_at other most ≡ Some w
word-stays one other most w h is =
    ap (λ l. word_at l most) h.1 ∙ ap (λ ws. slice_get (once_each ws) most) (all-append one h.0)
    ∙ ap (λ ws. slice_get ws most) (once_append (all_of one) (all_of h.0))
    ∙ get-front (once_each (all_of one)) (filter (λ y. not (is_in y (all_of one))) (once_each (all_of h.0))) most w is

-- what is in a list is in a longer one
in-front : (w : ℕ) (xs ys : List ℕ) → is_in w xs ≡ true → is_in w (xs ++ ys) ≡ true
in-front w [] ys h = absurd (let no : false ≡ true = h in cc)
in-front w (x ∷ xs) ys h =
    elim (w == x) as (λ b. (b || is_in w xs) ≡ true → (b || is_in w (xs ++ ys)) ≡ true) [
      | true ↦ λ _. refl
      | false ↦ λ within. in-front w xs ys within
    ] h

-- a pattern that was there is among those of the games
met-there : (kinds : Kinds) (w : ℕ) (games : List Replayed) → 0 < there_sum kinds games w → has w (patterns_in kinds games) ≡ true
met-there kinds w games some =
    elim (has w (patterns_in kinds games)) as (λ b. has w (patterns_in kinds games) ≡ b → b ≡ true) [
      | true ↦ λ _. refl
      | false ↦ λ none. absurd (let no = there-none kinds w games none in omega (arith, no, some))
    ] refl

-- the first game that has a word
abbrev at_first : ℕ → List (List ℕ) → ℕ
at_first w games = position_or_len (λ ps. nat_lt 0 (times_in ps w)) games

first-by-game : (kinds : Kinds) (w : ℕ) (games : List Replayed) → position_or_len (λ g. nat_lt 0 (there_in (kinds_of kinds) g w)) games ≡ at_first w (by_game kinds games)
first-by-game kinds w [] = refl
first-by-game kinds w (game ∷ games) =
    ap (λ n. cond (not (nat_lt 0 (there_in (kinds_of kinds) game w))) (1 + n) 0) (first-by-game kinds w games)

first-stays : (w : ℕ) (one rest : List (List ℕ)) → at_first w one < length one → at_first w (one ++ rest) ≡ at_first w one
first-stays w [] rest inside = absurd (omega arith)
first-stays w (ps ∷ one) rest inside =
    elim (nat_lt 0 (times_in ps w)) as (λ b. cond (not b) (1 + at_first w one) 0 < suc (length one) → cond (not b) (1 + at_first w (one ++ rest)) 0 ≡ cond (not b) (1 + at_first w one) 0) [
      | true ↦ λ _. refl
      | false ↦ λ within. ap (λ n. 1 + n) (first-stays w one rest (omega (arith, within)))
    ] inside

by-length : (kinds : Kinds) (games : List Replayed) → length (by_game kinds games) ≡ length games
by-length kinds [] = refl
by-length kinds (game ∷ games) = ap suc (by-length kinds games)

-- where a place is told, it is that of the game
told-place : (at long game : ℕ) → cond (nat_lt at long) (Some at) None ≡ Some game → (at ≡ game) × (at < long)
told-place at long game is =
    elim (nat_lt at long) as (λ b. nat_lt at long ≡ b → cond b (Some at) None ≡ Some game → (at ≡ game) × (at < long)) [
      | true ↦ λ test here. ((let same : at ≡ game = cc in same), (let low : at < long = Prim.grind (arith, nat_tests, test) in low))
      | false ↦ λ _ none. absurd (cc)
    ] refl is

first-told : (kinds : Kinds) (w game : ℕ) (games : List Replayed) → first_game kinds games w ≡ Some game →
    (at_first w (by_game kinds games) ≡ game) × (at_first w (by_game kinds games) < length (by_game kinds games))
first-told kinds w game games is =
    let told = told-place (position_or_len (λ g. nat_lt 0 (there_in (kinds_of kinds) g w)) games) (length games) game is in
    (sym (first-by-game kinds w games) ∙ told.0, omega (arith, told.1, first-by-game kinds w games, by-length kinds games))

some-one : (a b : ℕ) → Some a ≡ Some b → a ≡ b
some-one a b h = cc

-- ---- one pattern and one game

-- where the games of one are the first of the other's
one-of-front : (kinds : Kinds) (bytes : List ℕ) (most game word other second : ℕ) (h : IsFirstBeyond kinds bytes most game word) (k : IsFirstBeyond kinds bytes most other second) →
    IsFront (by_game kinds h.games) (by_game kinds k.games) → (game ≡ other) × (word ≡ second)
one-of-front kinds bytes most game word other second h k first =
    let here : word_at (by_game kinds h.games) most ≡ Some word = ap (λ ws. slice_get (once_each ws) most) (sym (patterns-are kinds h.games)) ∙ h.word_is in
    let there : word_at (by_game kinds k.games) most ≡ Some second = ap (λ ws. slice_get (once_each ws) most) (sym (patterns-are kinds k.games)) ∙ k.word_is in
    let same : word ≡ second = some-one word second (sym (word-stays (by_game kinds h.games) (by_game kinds k.games) most word first here) ∙ there) in
    let one = first-told kinds word game h.games h.game_is in
    let two = first-told kinds second other k.games k.game_is in (
      sym one.0 ∙ sym (first-stays word (by_game kinds h.games) first.0 one.1) ∙ ap (at_first word) (sym first.1) ∙ ap (λ w. at_first w (by_game kinds k.games)) same ∙ two.0,
      same,
    )

module _ (one_result : HaveOneResult) where
  pub one_first : (kinds : Kinds) (bytes : List ℕ) (most game word other second : ℕ) → IsFirstBeyond kinds bytes most game word → IsFirstBeyond kinds bytes most other second →
      (game ≡ other) × (word ≡ second)
  one_first kinds bytes most game word other second h k =
      ⊎_elim (λ first. one-of-front kinds bytes most game word other second h k first)
      (λ last. let turned = one-of-front kinds bytes most other second game word k h last in (sym turned.0, sym turned.1))
      (fronts one_result kinds bytes 0 h.end k.end h.trees k.trees h.games k.games h.written k.written h.replayed k.replayed)

  pub none_beyond : (kinds : Kinds) (bytes : List ℕ) (most game word : ℕ) → HasAtMost kinds bytes most → IsFirstBeyond kinds bytes most game word → ⊥
  none_beyond kinds bytes most game word few h =
      let first = front one_result kinds bytes 0 h.end few.end h.trees few.trees h.games few.games h.written few.written few.no_more h.replayed few.replayed in
      let here : word_at (by_game kinds h.games) most ≡ Some word = ap (λ ws. slice_get (once_each ws) most) (sym (patterns-are kinds h.games)) ∙ h.word_is in
      let there = word-stays (by_game kinds h.games) (by_game kinds few.games) most word first here in
      let inside = get-inside (once_each (all_of (by_game kinds few.games))) most word there in
      omega (arith, inside, few.few, ap (λ ws. length (once_each ws)) (patterns-are kinds few.games))

  -- and there are no more different patterns than they have
  pub none_more : (kinds : Kinds) (bytes : List ℕ) (most : ℕ) → HasAtMost kinds bytes most → HasMore kinds bytes most → ⊥
  none_more kinds bytes most few h =
      let first = front one_result kinds bytes 0 h.end few.end h.trees few.trees h.games few.games h.written few.written few.no_more h.replayed few.replayed in
      let all = once_each (patterns_in kinds few.games) in
      let among : All (λ w. is_in w all ≡ true) h.shapes = λ k d inside.
      let w = get_or h.shapes k d in
      in_once w (patterns_in kinds few.games)
      ∙ ap (is_in w) (patterns-are kinds few.games ∙ ap all_of first.1 ∙ all-append (by_game kinds h.games) first.0)
      ∙ in-front w (all_of (by_game kinds h.games)) (all_of first.0)
      (ap (is_in w) (sym (patterns-are kinds h.games)) ∙ sym (has-is w (patterns_in kinds h.games)) ∙ met-there kinds w h.games (h.there k d inside)) in
      let bound = different_few h.shapes all h.different among in
      let more = h.more in
      let many = few.few in
      omega (arith, bound, more, many)
