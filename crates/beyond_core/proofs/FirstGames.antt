-- A dictionary's patterns, by the games that have them first.
use Rattle.std.proofs.Common.{◌≡◌, ℕ, zero, suc, ◌+◌, ◌<◌, ◌≤◌, ◌==◌, ◌&&◌, ◌||◌, nat_lt, Bool, true, false, not, cond, List, get_or, [], ◌∷◌, ◌++◌, length, take, ◌-◌, Option, Some, None, refl, ap, ap₂, sym, ◌∙◌, arith}
use Rattle.std.specs.Prelude.{slice_get, filter, count_by}
use Rattle.std.specs.List.{position_or_len}
use Rattle.std.proofs.lemmas.List.{length-map, append-nil}
use Rattle.std.proofs.lemmas.List.Concat.{flat_map-append}
use Rattle.std.proofs.lemmas.Option.{slice_get-get_or}
use Rattle.std.proofs.lemmas.Bool.Decides.{nat_tests}
use Rattle.std.proofs.lemmas.List.Sums.{sum_by-cons}
use Rattle.shape_core.specs.declared.words.Kinds.{Kinds}
use Rattle.shape_dict.specs.declared.entries.Entry.{Entry}
use Rattle.shape_dict.specs.Contents.{entry_of}
use Rattle.shape_dict.specs.Inner.Merging.{Climbs}
use Rattle.tally_core.specs.Beyond.{patterns_in}
use Rattle.tally_core.specs.Counts.{Replayed, kinds_of, there_in}
use Rattle.tally_core.specs.Games.{there_sum, played_sum, first_game, counted_entry}
use Rattle.tally_core.specs.Inner.Entries.{shapes_of}
use Rattle.tally_core.specs.Walk.{once_each}
use Rattle.tally_core.proofs.Games.{first_of, first-none}
use Rattle.tally_core.proofs.GamesMet.{patterns_of_game}
use Rattle.beyond_core.specs.Inner.TooMany.{is_below, is_game, entries_before, new_words}
use Rattle.tally_core.proofs.Once.{is_in, in_once}
use Rattle.beyond_core.proofs.Places.{passes_at, front_at, new_at}
use Rattle.beyond_core.proofs.Apart.{AreApart, flip, same_length, once_apart}

-- ---- entries whose words rise

below_none : (p : Entry → Bool) (w least : ℕ) (es : List Entry) → w < least → Climbs least es → is_in w (shapes_of (filter p es)) ≡ false
below_none p w least [] low climbs = refl
below_none p w least (e ∷ es) low climbs =
    let rest = filter p es in
    let later = below_none p w (suc e.shape) es (omega (arith, low, climbs.0)) climbs.1 in
    elim (p e) as (λ b. is_in w (shapes_of (cond b (e ∷ rest) rest)) ≡ false) [
      | true ↦ let above = climbs.0 in let other : (w == e.shape) ≡ false = Prim.grind (arith, nat_tests, above, low) in ap (λ b. b || is_in w (shapes_of rest)) other ∙ later
      | false ↦ later
    ]

entries_apart : (p : Entry → Bool) (least : ℕ) (es : List Entry) → Climbs least es → AreApart (shapes_of (filter p es))
entries_apart p least [] climbs = tt
entries_apart p least (e ∷ es) climbs =
    let rest = filter p es in
    elim (p e) as (λ b. AreApart (shapes_of (cond b (e ∷ rest) rest))) [
      | true ↦ (below_none p e.shape (suc e.shape) es (omega arith) climbs.1, entries_apart p (suc e.shape) es climbs.1)
      | false ↦ entries_apart p (suc e.shape) es climbs.1
    ]

-- whether a test passes an entry, where there is one
abbrev pub passes : (Entry → Bool) → Option Entry → Bool
passes p None = false
passes p (Some e) = p e

-- a word is among those that a test leaves where its entry passes
in_entries : (p : Entry → Bool) (w least : ℕ) (es : List Entry) → Climbs least es → is_in w (shapes_of (filter p es)) ≡ passes p (entry_of w es)
in_entries p w least [] climbs = refl
in_entries p w least (e ∷ es) climbs =
    let rest = filter p es in
    elim (e.shape == w) as (λ b. (e.shape == w) ≡ b → is_in w (shapes_of (cond (p e) (e ∷ rest) rest)) ≡ passes p (cond b (Some e) (entry_of w es))) [
      | true ↦ λ test.
          let same : e.shape ≡ w = Prim.grind (arith, nat_tests, test) in
          elim (p e) as (λ b. is_in w (shapes_of (cond b (e ∷ rest) rest)) ≡ b) [
            | true ↦ ap (λ b. b || is_in w (shapes_of rest)) (flip e.shape w true test)
            | false ↦ below_none p w (suc e.shape) es (omega (arith, same)) climbs.1
          ]
      | false ↦ λ test.
          elim (p e) as (λ b. is_in w (shapes_of (cond b (e ∷ rest) rest)) ≡ passes p (entry_of w es)) [
            | true ↦ ap (λ b. b || is_in w (shapes_of rest)) (flip e.shape w false test) ∙ in_entries p w (suc e.shape) es climbs.1
            | false ↦ in_entries p w (suc e.shape) es climbs.1
          ]
    ] refl

-- ---- which games have a word

-- a word that is there is there some times
times : ℕ → List ℕ → ℕ
times w ps = count_by (λ c. c == w) ps

some-times : (w : ℕ) (ps : List ℕ) → nat_lt 0 (times w ps) ≡ is_in w ps
unfolding times
some-times w [] = refl
some-times w (p ∷ ps) =
    let f : ℕ → ℕ = λ c. cond (c == w) 1 0 in
    let parts = sum_by-cons f p ps in
    elim (w == p) as (λ b. (w == p) ≡ b → nat_lt 0 (times w (p ∷ ps)) ≡ (b || is_in w ps)) [
      | true ↦ λ test. let here : f p ≡ 1 = ap (λ b. cond b 1 0) (flip w p true test) in Prim.grind (arith, nat_tests, parts, here)
      | false ↦ λ test. let here : f p ≡ 0 = ap (λ b. cond b 1 0) (flip w p false test) in
          ap (nat_lt 0) (omega (arith, parts, here)) ∙ some-times w ps
    ] refl

in-append : (w : ℕ) (xs ys : List ℕ) → is_in w (xs ++ ys) ≡ (is_in w xs || is_in w ys)
in-append w [] ys = refl
in-append w (x ∷ xs) ys = ap (λ b. (w == x) || b) (in-append w xs ys) ∙ or_assoc (w == x) (is_in w xs) (is_in w ys)
  where
    or_assoc : (a b c : Bool) → (a || (b || c)) ≡ ((a || b) || c)
    or_assoc true b c = refl
    or_assoc false b c = refl

-- the place of the first game that has it
place_of : Kinds → ℕ → List Replayed → ℕ
place_of kinds w games = position_or_len (λ g. nat_lt 0 (there_in (kinds_of kinds) g w)) games

in_front : (kinds : Kinds) (w n : ℕ) (games : List Replayed) → is_in w (patterns_in kinds (take n games)) ≡ (nat_lt (place_of kinds w games) n && nat_lt (place_of kinds w games) (length games))
unfolding place_of times
in_front kinds w zero games = Prim.grind (arith, nat_tests)
in_front kinds w (suc n) [] = Prim.grind (arith, nat_tests)
in_front kinds w (suc n) (game ∷ games) =
    let ps = patterns_of_game kinds game in
    let at = place_of kinds w games in
    in-append w ps (patterns_in kinds (take n games))
    ∙ ap (λ b. b || is_in w (patterns_in kinds (take n games))) (sym (some-times w ps))
    ∙ ap (λ b. nat_lt 0 (there_in (kinds_of kinds) game w) || b) (in_front kinds w n games)
    ∙ by_test (nat_lt 0 (there_in (kinds_of kinds) game w)) at (length games)
  where
    by_test : (b : Bool) (at long : ℕ) → (b || (nat_lt at n && nat_lt at long)) ≡ (nat_lt (cond (not b) (1 + at) 0) (suc n) && nat_lt (cond (not b) (1 + at) 0) (suc long))
    by_test true at long = Prim.grind (arith, nat_tests)
    by_test false at long = Prim.grind (arith, nat_tests)

below_place : (n at long : ℕ) → is_below n (cond (nat_lt at long) (Some at) None) ≡ (nat_lt at n && nat_lt at long)
below_place n at long =
    elim (nat_lt at long) as (λ b. is_below n (cond b (Some at) None) ≡ (nat_lt at n && b)) [
      | true ↦ and-true (nat_lt at n)
      | false ↦ and-false (nat_lt at n)
    ]
  where
    and-true : (b : Bool) → b ≡ (b && true)
    and-true true = refl
    and-true false = refl

    and-false : (b : Bool) → false ≡ (b && false)
    and-false true = refl
    and-false false = refl

-- a word's first game is below a number where it is a pattern of the games below that
pub below_is : (kinds : Kinds) (w n : ℕ) (games : List Replayed) → is_below n (first_game kinds games w) ≡ is_in w (patterns_in kinds (take n games))
unfolding place_of
below_is kinds w n games = below_place n (place_of kinds w games) (length games) ∙ sym (in_front kinds w n games)

game_is : (n : ℕ) (o : Option ℕ) → is_game n o ≡ (is_below (n + 1) o && not (is_below n o))
game_is n None = refl
game_is n (Some first) = Prim.grind (arith, nat_tests)

game_some : (n : ℕ) (o : Option ℕ) → is_game n o ≡ true → o ≡ Some n
game_some n None is = absurd (let no : false ≡ true = is in cc)
game_some n (Some first) is = ap Some (let same : first ≡ n = Prim.grind (arith, nat_tests, is) in same)

-- ---- the words of a dictionary

no-first : (kinds : Kinds) (w : ℕ) (games : List Replayed) → nat_lt 0 (there_sum kinds games w) ≡ false → first_game kinds games w ≡ None
unfolding place_of first_of
no-first kinds w games test =
    let at = place_of kinds w games in
    let none : there_sum kinds games w ≡ 0 = Prim.grind (arith, nat_tests, test) in
    let last : at ≡ length games = first-none (λ (g : Replayed). there_in (kinds_of kinds) g w) games none in
    let past : nat_lt at (length games) ≡ false = Prim.grind (arith, nat_tests, last) in
    ap (λ b. cond b (Some at) None) past

module _ (kinds : Kinds) (games : List Replayed) (entries : List Entry) (rises : Climbs 0 entries) (are : (w : ℕ) → entry_of w entries ≡ counted_entry kinds games w) where
  -- those whose first games pass a test
  in_dictionary : (t : Option ℕ → Bool) (w : ℕ) → t None ≡ false → is_in w (shapes_of (filter (λ e. t e.first) entries)) ≡ t (first_game kinds games w)
  in_dictionary t w none =
      in_entries (λ e. t e.first) w 0 entries rises
      ∙ ap (passes (λ e. t e.first)) (are w)
      ∙ elim (nat_lt 0 (there_sum kinds games w)) as (λ b. nat_lt 0 (there_sum kinds games w) ≡ b →
      passes (λ e. t e.first) (cond b (Some (record { shape = w; there = there_sum kinds games w; played = played_sum kinds games w; first = first_game kinds games w })) None) ≡ t (first_game kinds games w)) [
        | true ↦ λ _. refl
        | false ↦ λ test. sym (ap t (no-first kinds w games test) ∙ none)
      ] refl

  -- those that games below a number have are their patterns
  pub before_are : (n : ℕ) → length (entries_before n entries) ≡ length (once_each (patterns_in kinds (take n games)))
  before_are n =
      let met = patterns_in kinds (take n games) in
      let words = shapes_of (entries_before n entries) in
      sym (length-map (entries_before n entries) (λ (e : Entry). e.shape))
      ∙ same_length words (once_each met) (entries_apart (λ e. is_below n e.first) 0 entries rises) (once_apart met)
      (λ w. in_dictionary (is_below n) w refl ∙ below_is kinds w n games ∙ sym (in_once w met))

  module _ (n : ℕ) (one : Replayed) (rest : List Replayed) (split : games ≡ take n games ++ one ∷ rest) (next : take (n + 1) games ≡ take n games ++ one ∷ []) where
    -- the patterns of all games
    all_patterns : patterns_in kinds games ≡ patterns_in kinds (take n games) ++ (patterns_of_game kinds one ++ patterns_in kinds rest)
    all_patterns = ap (patterns_in kinds) split ∙ flat_map-append (patterns_of_game kinds) (take n games) (one ∷ rest)

    first_patterns : patterns_in kinds (take (n + 1) games) ≡ patterns_in kinds (take n games) ++ patterns_of_game kinds one
    first_patterns = ap (patterns_in kinds) next ∙ flat_map-append (patterns_of_game kinds) (take n games) (one ∷ []) ∙ ap (λ ps. patterns_in kinds (take n games) ++ ps) (append-nil (patterns_of_game kinds one))

    module _ (t : ℕ → Bool) (tells : (w : ℕ) → t w ≡ is_in w (new_words n entries)) where
      tells_first : (w : ℕ) → t w ≡ is_game n (first_game kinds games w)
      tells_first w = tells w ∙ in_dictionary (is_game n) w refl

      -- of the patterns of the game those are new that no game before it has
      tells_new : (w : ℕ) → is_in w (once_each (patterns_of_game kinds one)) ≡ true → t w ≡ not (is_in w (patterns_in kinds (take n games)))
      tells_new w here =
          let met = is_in w (patterns_in kinds (take n games)) in
          tells_first w
          ∙ game_is n (first_game kinds games w)
          ∙ ap₂ (λ a b. a && not b) (below_is kinds w (n + 1) games ∙ ap (is_in w) first_patterns ∙ in-append w (patterns_in kinds (take n games)) (patterns_of_game kinds one)) (below_is kinds w n games)
          ∙ ap (λ b. (met || b) && not met) (sym (in_once w (patterns_of_game kinds one)) ∙ here)
          ∙ new_alone met
        where
          new_alone : (b : Bool) → ((b || true) && not b) ≡ not b
          new_alone true = refl
          new_alone false = refl

      -- the word at a place among those of the game that are new
      pub word_found : (most : ℕ) (met : List ℕ) → once_each met ≡ once_each (patterns_of_game kinds one) → length (entries_before n entries) ≤ most → most < length (entries_before (n + 1) entries) →
          (word : ℕ) × (slice_get (filter t (once_each met)) (most - length (entries_before n entries)) ≡ Some word)
          × (slice_get (once_each (patterns_in kinds games)) most ≡ Some word) × (first_game kinds games word ≡ Some n)
      word_found most met order few more =
          let first = patterns_in kinds (take n games) in
          let second = patterns_of_game kinds one in
          let rest_of = patterns_in kinds rest in
          let k = most - length (entries_before n entries) in
          let inside : most < length (once_each (first ++ second)) = (let long = before_are (n + 1) ∙ ap (λ ps. length (once_each ps)) first_patterns in omega (arith, more, long)) in
          let word = get_or (once_each (first ++ second)) most 0 in
          let at : slice_get (once_each (first ++ second)) most ≡ Some word = slice_get-get_or (once_each (first ++ second)) most 0 inside in
          let place : most ≡ length (once_each first) + k = (let long = before_are n in omega (arith, few, long)) in
          let found : slice_get (filter t (once_each met)) k ≡ Some word = sym (new_at first second met t most k order tells_new place) ∙ at in (
            word,
            found,
            ap (λ ps. slice_get (once_each ps) most) all_patterns ∙ front_at first second rest_of most inside ∙ at,
            game_some n (first_game kinds games word) (sym (tells_first word) ∙ passes_at t (once_each met) k word found),
          )
