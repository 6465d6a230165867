-- The hits of games, and what `count` counts of them.
use Rattle.std.proofs.Common.{◌≡◌, ℕ, ◌+◌, ◌==◌, Bool, true, false, cond, List, [], ◌∷◌, ◌++◌, length, map, filter, count_by, sum_by, All, Some, None, nat_lt, Result, Ok, Err, refl, ap, ap₂, sym, subst, ◌∙◌, arith, zero-add}
use Rattle.std.specs.List.{flat_map}
use Rattle.std.proofs.lemmas.Bool.{ne_eqb, ltb-false}
use Rattle.std.proofs.lemmas.List.{append-nil}
use Rattle.std.proofs.lemmas.List.Concat.{flat_map-append}
use Rattle.std.proofs.lemmas.List.Sums.{sum_by-append, sum_by-cons}
use Rattle.std.proofs.lemmas.List.Elements.{All-nil, All-cons, All-head, All-tail}
use Rattle.sgf_core.specs.Tree.{GameTree, main_line_of}
use Rattle.sgf_core.specs.Next.{IsNextTree, HasNoTree}
use Rattle.sgf_core.proofs.OneAnswer.{same_next}
use Rattle.go_board.specs.Extent.{Extent}
use Rattle.go_board.specs.Position.{Position, AreSame}
use Rattle.go_board.specs.declared.points.Point.{Point}
use Rattle.go_board.specs.declared.points.Colour.{Colour}
use Rattle.go_record.specs.Actions.{Actions, IsActionOn, AreOnBoard}
use Rattle.go_record.specs.declared.records.Kind.{Kind}
use Rattle.go_record.specs.declared.records.Kind.TheVariants as record_kind
use Rattle.go_record.specs.declared.faults.RecordFault.{RecordFault}
use Rattle.go_record.specs.declared.actions.Action.{Action}
use Rattle.go_record.specs.declared.actions.Action.TheVariants as action
use Rattle.shape_core.specs.declared.words.Kind.{Kind as PatternKind}
use Rattle.shape_core.specs.declared.words.Kind.TheVariants as kind
use Rattle.shape_core.specs.declared.words.Kinds.{Kinds}
use Rattle.shape_core.specs.declared.words.Kinds.TheVariants as kinds
use Rattle.shape_core.specs.Symmetry.{canonical_of}
use Rattle.shape_core.specs.Around.{word_around}
use Rattle.shape_core.specs.Word.{kind_of}
use Rattle.shape_core.specs.Field.{Includes}
use Rattle.shape_dict.specs.Contents.{Contents, entry_of}
use Rattle.tally_core.specs.Occasions.{Occasion, is_empty, occasion_of, HasOccasions, AreOccasions}
use Rattle.tally_core.specs.Counts.{Replayed, kinds_of, points_of, patterns_at, patterns_there, patterns_played}
use Rattle.game_core.specs.Collection.{AreTrees, record_of_tree, games_among}
use Rattle.tally_core.specs.Collection.{AreReplayed}
use Rattle.tally_core.specs.Games.{there_sum, played_sum, first_game, IsDictionaryOf}
use Rattle.tally_core.specs.Counted.{IsCounted}
use Rattle.tally_core.specs.declared.collections.Counted.{Counted}
use Rattle.tally_core.proofs.PlayedThere.{played_there}
use Rattle.tally_core.proofs.Skipped.{points-on}
use Rattle.hits_core.specs.declared.games.Game.{Game}
use Rattle.hits_core.specs.declared.hits.Hit.{Hit}
use Rattle.hits_core.specs.declared.searches.Sought.{Sought}
use Rattle.hits_core.specs.declared.searches.Sought.TheVariants as sought
use Rattle.hits_core.specs.Wanted.{is_wanted, wanted_at}
use Rattle.hits_core.specs.Turns.{Turn, turn_of, number_after, HasTurns}
use Rattle.hits_core.specs.Hits.{hits_at, hits_of_turn, AreHitsOf, AreHits, game_of, AreGames}
use Rattle.hits_core.specs.Agreement.{times_hit, times_counted}
use Rattle.hits_core.proofs.Moving.{KindsStay}
use Rattle.hits_core.proofs.Trees.{games-are-of-trees}
use Rattle.go_record.proofs.OnBoard.{is_on_board}
use Rattle.tally_core.proofs.SamePositions.{HaveOneResult, does-same, patterns-same, empties-same}

-- how often a word is in a list
abbrev pub times_in : ℕ → List ℕ → ℕ
times_in word words = count_by (λ w. w == word) words

hit-append : (word : ℕ) (xs ys : List Hit) → times_hit word (xs ++ ys) ≡ times_hit word xs + times_hit word ys
hit-append word xs ys = sum_by-append (λ (hit : Hit). cond (hit.word == word) 1 0) xs ys

in-append : (word : ℕ) (xs ys : List ℕ) → times_in word (xs ++ ys) ≡ times_in word xs + times_in word ys
in-append word xs ys = sum_by-append (λ w. cond (w == word) 1 0) xs ys

-- hits that are made of words are of these words
hit-map : (word : ℕ) (f : ℕ → Hit) → ((w : ℕ) → (f w).word ≡ w) → (ws : List ℕ) → times_hit word (map f ws) ≡ times_in word ws
hit-map word f is [] = refl
hit-map word f is (w ∷ ws) =
    sum_by-cons (λ (hit : Hit). cond (hit.word == word) 1 0) (f w) (map f ws)
    ∙ ap₂ (λ v n. cond (v == word) 1 0 + n) (is w) (hit-map word f is ws)
    ∙ sym (sum_by-cons (λ v. cond (v == word) 1 0) w ws)

-- a word that is wanted is not passed over
kept-word : (p : ℕ → Bool) (word : ℕ) → p word ≡ true → (ws : List ℕ) → times_in word (filter p ws) ≡ times_in word ws
kept-word p word wanted [] = refl
kept-word p word wanted (w ∷ ws) = by_test (p w) refl (kept-word p word wanted ws)
  where
    not-it : p w ≡ false → (w == word) ≡ false
    not-it fails = ne_eqb w word (λ same. let both : true ≡ false = sym wanted ∙ ap p (sym same) ∙ fails in absurd (cc))

    by_test : (b : Bool) → p w ≡ b → times_in word (filter p ws) ≡ times_in word ws → times_in word (cond b (w ∷ filter p ws) (filter p ws)) ≡ times_in word (w ∷ ws)
    by_test true holds rest =
        sum_by-cons (λ v. cond (v == word) 1 0) w (filter p ws)
        ∙ ap (λ n. cond (w == word) 1 0 + n) rest
        ∙ sym (sum_by-cons (λ v. cond (v == word) 1 0) w ws)
    by_test false fails rest =
        rest
        ∙ sym (zero-add (times_in word ws))
        ∙ ap (λ b. cond b 1 0 + times_in word ws) (sym (not-it fails))
        ∙ sym (sum_by-cons (λ v. cond (v == word) 1 0) w ws)

-- ---- one occasion

-- the patterns that count at an occasion
abbrev pub patterns_of : Sought → List PatternKind → Extent → Occasion → List ℕ
patterns_of sought.Played which size occasion = patterns_played which size occasion
patterns_of sought.There which size occasion = patterns_there which size occasion

-- the kinds of a count have this word's among them: then it counts as often among them as among both
one-kind : KindsStay → (which : Kinds) (word : ℕ) → Includes which (kind_of word) → (size : Extent) (position : Position) (mover : Colour) (at : Point) →
    times_in word (patterns_at (kinds_of kinds.Both) size position mover at) ≡ times_in word (patterns_at (kinds_of which) size position mover at)
one-kind stay kinds.Both word includes size position mover at = refl
one-kind stay kinds.Squares word includes size position mover at =
    let square = canonical_of (word_around kind.Square size position at) mover in
    let diamond = canonical_of (word_around kind.Diamond size position at) mover in
    let of : kind_of diamond ≡ kind.Diamond = stay.0 (word_around kind.Diamond size position at) mover ∙ stay.1 kind.Diamond size position at in
    let other : (diamond == word) ≡ false = ne_eqb diamond word (λ same. subst (Includes kinds.Squares) (sym (ap kind_of same) ∙ of) includes) in
    sum_by-cons (λ v. cond (v == word) 1 0) square (diamond ∷ [])
    ∙ ap (λ n. cond (square == word) 1 0 + n) (sum_by-cons (λ v. cond (v == word) 1 0) diamond [] ∙ ap (λ b. cond b 1 0 + 0) other)
    ∙ sym (sum_by-cons (λ v. cond (v == word) 1 0) square [])

module _ (stay : KindsStay) (words : List ℕ) (which : Kinds) (word : ℕ) (wanted : is_wanted words word ≡ true) (includes : Includes which (kind_of word)) where
  -- a point has the word as often either way
  one-point : (game : Game) (number : ℕ) (size : Extent) (p q : Position) (mover : Colour) (at here : Point) → game.recorded.size ≡ size → AreSame size p q →
      times_hit word (hits_at words game (record { number = number; occasion = record { position = p; mover = mover; at = at } }) here) ≡ times_in word (patterns_at (kinds_of which) size q mover here)
  one-point game number size p q mover at here sized same =
      hit-map word (λ w. record { game = game.number; number = number; at = here; mover = mover; place = game.place; rows = game.recorded.size.rows; word = w }) (λ w. refl) (wanted_at words game.recorded.size p mover here)
      ∙ kept-word (is_wanted words) word wanted (patterns_at (kinds_of kinds.Both) game.recorded.size p mover here)
      ∙ ap (λ (s : Extent). times_in word (patterns_at (kinds_of kinds.Both) s p mover here)) sized
      ∙ ap (times_in word) (patterns-same (kinds_of kinds.Both) size p q mover here same)
      ∙ one-kind stay which word includes size q mover here

  -- so have points
  some-points : (game : Game) (number : ℕ) (size : Extent) (p q : Position) (mover : Colour) (at : Point) (points : List Point) → game.recorded.size ≡ size → AreSame size p q →
      times_hit word (flat_map (hits_at words game (record { number = number; occasion = record { position = p; mover = mover; at = at } })) points)
      ≡ times_in word (flat_map (patterns_at (kinds_of which) size q mover) points)
  some-points game number size p q mover at [] sized same = refl
  some-points game number size p q mover at (here ∷ points) sized same =
      let hits = hits_at words game (record { number = number; occasion = record { position = p; mover = mover; at = at } }) in
      hit-append word (hits here) (flat_map hits points)
      ∙ ap₂ (λ m n. m + n) (one-point game number size p q mover at here sized same) (some-points game number size p q mover at points sized same)
      ∙ sym (in-append word (patterns_at (kinds_of which) size q mover here) (flat_map (patterns_at (kinds_of which) size q mover) points))

-- an occasion has the word as often either way
one-occasion : KindsStay → (what : Sought) (words : List ℕ) (which : Kinds) (word : ℕ) → is_wanted words word ≡ true → Includes which (kind_of word) →
    (game : Game) (number : ℕ) (size : Extent) (p q : Position) (mover : Colour) (at : Point) → game.recorded.size ≡ size → AreSame size p q →
    times_hit word (hits_of_turn what words game (record { number = number; occasion = record { position = p; mover = mover; at = at } }))
    ≡ times_in word (patterns_of what (kinds_of which) size (record { position = q; mover = mover; at = at }))
one-occasion stay sought.Played words which word wanted includes game number size p q mover at sized same =
    some-points stay words which word wanted includes game number size p q mover at (at ∷ []) sized same
    ∙ ap (times_in word) (append-nil (patterns_at (kinds_of which) size q mover at))
one-occasion stay sought.There words which word wanted includes game number size p q mover at sized same =
    ap (λ (s : Extent). times_hit word (flat_map (hits_at words game (record { number = number; occasion = record { position = p; mover = mover; at = at } })) (filter (λ here. is_empty (p here)) (points_of s)))) sized
    ∙ some-points stay words which word wanted includes game number size p q mover at (filter (λ here. is_empty (p here)) (points_of size)) sized same
    ∙ ap (λ points. times_in word (flat_map (patterns_at (kinds_of which) size q mover) points)) (empties-same size p q (points_of size) same (points-on size))

-- ---- one game

module _ (stay : KindsStay) (one_result : HaveOneResult) (what : Sought) (words : List ℕ) (which : Kinds) (word : ℕ) (wanted : is_wanted words word ≡ true) (includes : Includes which (kind_of word)) where
  -- an action has
  one-action : (game : Game) (number : ℕ) (size : Extent) (p q : Position) (act : Action) → game.recorded.size ≡ size → AreSame size p q → IsActionOn size act →
      times_hit word (flat_map (hits_of_turn what words game) (map (turn_of number) (occasion_of p act))) ≡ times_in word (flat_map (patterns_of what (kinds_of which) size) (occasion_of q act))
  one-action game number size p q (action.Set low high stone) sized same on = refl
  one-action game number size p q (action.Pass mover) sized same on = refl
  one-action game number size p q (action.Move mover at) sized same on =
      ap (λ b. times_hit word (flat_map (hits_of_turn what words game) (map (turn_of number) (cond b (record { position = p; mover = mover; at = at } ∷ []) [])))) (ap is_empty (same at on))
      ∙ by_test (is_empty (q at))
    where
      by_test : (b : Bool) → times_hit word (flat_map (hits_of_turn what words game) (map (turn_of number) (cond b (record { position = p; mover = mover; at = at } ∷ []) [])))
          ≡ times_in word (flat_map (patterns_of what (kinds_of which) size) (cond b (record { position = q; mover = mover; at = at } ∷ []) []))
      by_test false = refl
      by_test true =
          ap (times_hit word) (append-nil (hits_of_turn what words game (record { number = number; occasion = record { position = p; mover = mover; at = at } })))
          ∙ one-occasion stay what words which word wanted includes game number size p q mover at sized same
          ∙ sym (ap (times_in word) (append-nil (patterns_of what (kinds_of which) size (record { position = q; mover = mover; at = at }))))

  -- all actions have
  all-actions : (game : Game) (size : Extent) (actions : List Action) (number : ℕ) (p q : Position) (turns : List Turn) (occasions : List Occasion) → game.recorded.size ≡ size → AreSame size p q →
      All (IsActionOn size) actions → HasTurns size actions number p turns → HasOccasions size actions q occasions →
      times_hit word (flat_map (hits_of_turn what words game) turns) ≡ times_in word (flat_map (patterns_of what (kinds_of which) size) occasions)
  all-actions game size [] number p q turns occasions sized same on h k =
      ap (λ ts. times_hit word (flat_map (hits_of_turn what words game) ts)) h ∙ sym (ap (λ os. times_in word (flat_map (patterns_of what (kinds_of which) size) os)) k)
  all-actions game size (act ∷ actions) number p q turns occasions sized same on h k =
      let hits = flat_map (hits_of_turn what words game) in
      let patterns = flat_map (patterns_of what (kinds_of which) size) in
      let here = map (turn_of number) (occasion_of p act) in
      let now = All-head (IsActionOn size) act actions on in
      let rest = all-actions game size actions (number_after number act) h.0 k.0 h.1 k.1 sized (does-same one_result size act p q h.0 k.0 now same h.2 k.2) (All-tail (IsActionOn size) act actions on) h.3 k.3 in
      ap (λ ts. times_hit word (hits ts)) h.4
      ∙ ap (times_hit word) (flat_map-append (hits_of_turn what words game) here h.1)
      ∙ hit-append word (hits here) (hits h.1)
      ∙ ap₂ (λ m n. m + n) (one-action game number size p q act sized same now) rest
      ∙ sym (in-append word (patterns (occasion_of q act)) (patterns k.1))
      ∙ sym (ap (times_in word) (flat_map-append (patterns_of what (kinds_of which) size) (occasion_of q act) k.1))
      ∙ sym (ap (λ os. times_in word (patterns os)) k.4)

  -- a game has
  one-game-counts : (game : Game) (hits : List Hit) (replayed : Replayed) → AreOnBoard game.recorded → AreHitsOf what words game hits → replayed.size ≡ game.recorded.size →
      AreOccasions game.recorded replayed.occasions → times_hit word hits ≡ times_in word (flat_map (patterns_of what (kinds_of which) replayed.size) replayed.occasions)
  one-game-counts game hits replayed on h sized k =
      ap (times_hit word) h.each
      ∙ all-actions game game.recorded.size game.recorded.actions 1 h.are_turns.start k.start h.turns replayed.occasions refl (λ at at_on. h.are_turns.empty at at_on ∙ sym (k.empty at at_on)) on
      h.are_turns.replayed k.replayed
      ∙ ap (λ (s : Extent). times_in word (flat_map (patterns_of what (kinds_of which) s) replayed.occasions)) (sym sized)

  -- games have
  games-count : (games : List Game) (hits : List Hit) (replayed : List Replayed) → All (λ (game : Game). AreOnBoard game.recorded) games → AreHits what words games hits →
      AreReplayed (map (λ (game : Game). game.recorded) games) replayed →
      times_hit word hits ≡ sum_by (λ (r : Replayed). times_in word (flat_map (patterns_of what (kinds_of which) r.size) r.occasions)) replayed
  games-count [] hits [] on h k = ap (times_hit word) h
  games-count [] hits (one ∷ others) on h k = absurd k
  games-count (game ∷ games) hits [] on h k = absurd k
  games-count (game ∷ games) hits (one ∷ others) on h k =
      ap (times_hit word) h.4
      ∙ hit-append word h.0 h.1
      ∙ ap₂ (λ m n. m + n) (one-game-counts game h.0 one (All-head (λ (g : Game). AreOnBoard g.recorded) game games on) h.2 k.0 k.1)
      (games-count games h.1 others (All-tail (λ (g : Game). AreOnBoard g.recorded) game games on) h.3 k.2)
      ∙ sym (sum_by-cons (λ (r : Replayed). times_in word (flat_map (patterns_of what (kinds_of which) r.size) r.occasions)) one others)

-- ---- a collection

not-next : (bytes : List ℕ) (from at stop : ℕ) (tree : GameTree) → IsNextTree bytes from at stop tree → HasNoTree bytes from → ⊥
not-next bytes from at stop tree next none = none at next.first.after next.first.begins

-- the trees of an input are the same however they are come by
same-trees : (bytes : List ℕ) (from : ℕ) (trees others : List GameTree) (end other_end : ℕ) → AreTrees bytes from trees end → AreTrees bytes from others other_end →
    HasNoTree bytes end → HasNoTree bytes other_end → trees ≡ others
same-trees bytes from [] [] end other_end h k none other_none = refl
same-trees bytes from [] (other ∷ others) end other_end h k none other_none =
    absurd (not-next bytes from k.0 k.1 other k.2 (subst (HasNoTree bytes) (sym h) none))
same-trees bytes from (tree ∷ trees) [] end other_end h k none other_none =
    absurd (not-next bytes from h.0 h.1 tree h.2 (subst (HasNoTree bytes) (sym k) other_none))
same-trees bytes from (tree ∷ trees) (other ∷ others) end other_end h k none other_none =
    let same = same_next bytes from h.0 h.1 tree k.0 k.1 other h.2 k.2 in
    let rest = same-trees bytes h.1 trees others end other_end h.3 (subst (λ f. AreTrees bytes f others other_end) (sym same.1) k.3) none other_none in
    cc (same.2, rest)

-- the games of trees are those that count, each on its board
record AreCountedGames (trees : List GameTree) (games : List Game) : Type 0 where
  pub same : games_among (map record_of_tree trees) ≡ map (λ (game : Game). game.recorded) games
  pub on_board : All (λ (game : Game). AreOnBoard game.recorded) games

more-games : (recorded : Result Kind RecordFault) (number at : ℕ) (trees : List GameTree) (games : List Game) → ((game : Actions) → recorded ≡ Ok (record_kind.Go game) → AreOnBoard game) →
    AreCountedGames trees games → (games_among (recorded ∷ map record_of_tree trees) ≡ map (λ (game : Game). game.recorded) (game_of recorded number at ++ games))
    × All (λ (game : Game). AreOnBoard game.recorded) (game_of recorded number at ++ games)
more-games (Ok (record_kind.Go game)) number at trees games on are = (
  ap (λ gs. game ∷ gs) are.same,
  All-cons (λ (g : Game). AreOnBoard g.recorded) (record { number = number; place = at; recorded = game }) games (on game refl) are.on_board,
)
more-games (Ok record_kind.Other) number at trees games on are = (are.same, are.on_board)
more-games (Err found) number at trees games on are = (are.same, are.on_board)

counted-games : (bytes : List ℕ) (number from : ℕ) (trees : List GameTree) (end : ℕ) (games : List Game) → AreGames bytes number from trees end games → AreCountedGames trees games
counted-games bytes number from [] end games h =
    subst (AreCountedGames []) (sym h.1) (record { same = refl; on_board = All-nil (λ (g : Game). AreOnBoard g.recorded) })
counted-games bytes number from (tree ∷ trees) end games h =
    let rest = counted-games bytes (number + length (games_among (record_of_tree tree ∷ []))) h.1 trees end h.2 h.4 in
    let more = more-games (record_of_tree tree) number h.0 trees h.2 (is_on_board (main_line_of tree)) rest in
    subst (AreCountedGames (tree ∷ trees)) (sym h.5) (record { same = more.0; on_board = more.1 })

-- ---- a dictionary

-- how often a pattern counts in games
abbrev sum_of : Sought → Kinds → List Replayed → ℕ → ℕ
sum_of sought.Played which games word = played_sum which games word
sum_of sought.There which games word = there_sum which games word

sums : (what : Sought) (which : Kinds) (games : List Replayed) (word : ℕ) →
    sum_by (λ (r : Replayed). times_in word (flat_map (patterns_of what (kinds_of which) r.size) r.occasions)) games ≡ sum_of what which games word
sums sought.Played which games word = refl
sums sought.There which games word = refl

-- what an entry of a dictionary says is the sum over its games
entry-says : KindsStay → (what : Sought) (which : Kinds) (games : List Replayed) (contents : Contents) (word : ℕ) → IsDictionaryOf which games contents →
    sum_of what which games word ≡ times_counted what (entry_of word contents.entries)
entry-says stay what which games contents word h =
    by_test what (nat_lt 0 (there_sum which games word)) refl ∙ ap (times_counted what) (sym (h.entries word))
  where
    none : nat_lt 0 (there_sum which games word) ≡ false → there_sum which games word ≡ 0
    none fails = omega (arith, ltb-false 0 (there_sum which games word) fails)

    by_test : (what : Sought) (b : Bool) → nat_lt 0 (there_sum which games word) ≡ b → sum_of what which games word ≡ times_counted what (cond b
        (Some (record { shape = word; there = there_sum which games word; played = played_sum which games word; first = first_game which games word })) None)
    by_test sought.Played true holds = refl
    by_test sought.There true holds = refl
    by_test sought.There false fails = none fails
    by_test sought.Played false fails = played_there stay.0 stay.1 which games contents h word (none fails)

pub agrees : KindsStay → HaveOneResult → (what : Sought) (words : List ℕ) (which : Kinds) (input : List ℕ) (end : ℕ) (trees : List GameTree) (games : List Game) (hits : List Hit) (counted : Counted) →
    AreGames input 0 0 trees end games → HasNoTree input end → AreHits what words games hits → IsCounted which input counted → (word : ℕ) → is_wanted words word ≡ true →
    Includes which (kind_of word) → times_hit word hits ≡ times_counted what (entry_of word counted.dictionary.entries)
agrees stay one_result what words which input end trees games hits counted h none are is word wanted includes =
    let same = same-trees input 0 trees is.trees end is.end (games-are-of-trees input 0 0 trees end games h) is.written none is.no_more in
    let of = counted-games input 0 0 trees end games h in
    let replayed : AreReplayed (map (λ (game : Game). game.recorded) games) is.games =
    subst (λ gs. AreReplayed gs is.games) of.same (subst (λ ts. AreReplayed (games_among (map record_of_tree ts)) is.games) (sym same) is.replayed) in
    games-count stay one_result what words which word wanted includes games hits is.games of.on_board are replayed
    ∙ sums what which is.games word
    ∙ entry-says stay what which is.games counted.dictionary word is.dictionary
