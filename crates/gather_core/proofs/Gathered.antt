-- The dictionary of all shares is that of their games.
use Rattle.std.proofs.Common.{◌≡◌, ℕ, ◌+◌, ◌<◌, ◌==◌, cond, List, [], ◌∷◌, ◌++◌, length, Some, refl, ap, ap₂, sym, subst, ◌∙◌, All, Contains, arith, Bool}
use Rattle.gather_core.proofs.Common.{sum_by, slice_get, AllByRecursion, AllZip, map-append, All-head, All-tail, recursion_from_All, All-nil, All-append, sum_by-cons, sum_by-append, Kinds, Entry, Contents, IsDictionary, Replayed, kinds_of, there_in, played_in, there_sum, played_sum, first_game, counted_entry, IsDictionaryOf, counts_diamonds, Row, there_of, played_of, first_of, earlier, ArePlayedThere, Held, Added, replayed_of, first_in, IsShareOf, IsShare, all_games, Covers, all_rows, gathered_entry, all_moves, all_added, replayed_games, HaveGames, IsGathered, AreWithin, IsStrictlyIncreasing, IsShape, All-weaker, entry_of}
use Rattle.gather_core.proofs.Added.{first_append, first_in_append}
use Rattle.gather_core.proofs.NumberedGames.{numbers_of, AreBelow, sum_numbered, length-numbered, game_found, Contains-flat_map, first_numbered}
use Rattle.tally_core.proofs.PlayedPatterns.{CanonicalStays, AroundStays}
use Rattle.tally_core.proofs.RisingDictionary.{is_dictionary}
use Rattle.gather_core.proofs.OfRows.{entry_is}
use Rattle.gather_core.specs.Inner.Words.{IsOfRows}
use Rattle.range_core.specs.Entries.{IsCountedEntry}
use Rattle.range_core.specs.Rising.{Rises}
use Rattle.range_core.proofs.Climbing.{climbs_increasing}
use Rattle.tally_core.specs.Inner.Entries.{shapes_of}

abbrev AreShares : List (List Added) → List Held → Type 0
AreShares addeds shares = AllZip IsShareOf addeds shares

abbrev AreOfKinds : Kinds → List Held → Type 0
AreOfKinds kinds shares = AllByRecursion (λ (share : Held). share.kinds ≡ kinds) shares

-- ---- what the rows of all shares say is what their games count
record AreTogether (kinds : Kinds) (addeds : List (List Added)) (shares : List Held) : Type 0 where
  there : (shape : ℕ) → there_of (all_rows shares) shape ≡ sum_by (λ one. there_in (kinds_of kinds) (replayed_of one) shape) (all_added addeds)
  played : (shape : ℕ) → played_of (all_rows shares) shape ≡ sum_by (λ one. played_in (kinds_of kinds) (replayed_of one) shape) (all_added addeds)
  first : (shape : ℕ) → first_of (all_rows shares) shape ≡ first_in kinds (all_added addeds) shape
  moves : all_moves shares ≡ sum_by (λ one. length one.occasions) (all_added addeds)
  games : all_games shares ≡ numbers_of (all_added addeds)
  among : ArePlayedThere (all_rows shares)

together : (kinds : Kinds) (addeds : List (List Added)) (shares : List Held) → AreShares addeds shares → AreOfKinds kinds shares → AreTogether kinds addeds shares
together kinds [] [] each of_kinds =
    record { there = λ shape. refl; played = λ shape. refl; first = λ shape. refl; moves = refl; games = refl; among = λ shape. omega arith }
together kinds [] (share ∷ shares) each of_kinds = absurd each
together kinds (added ∷ addeds) [] each of_kinds = absurd each
together kinds (added ∷ addeds) (share ∷ shares) each of_kinds =
    let rest = together kinds addeds shares each.1 of_kinds.1 in
    let of = each.0 in
    let there = λ (shape : ℕ). sum_by-append (λ (row : Row). cond (row.shape == shape) row.there 0) share.rows (all_rows shares) in
    let played = λ (shape : ℕ). sum_by-append (λ (row : Row). cond (row.shape == shape) row.played 0) share.rows (all_rows shares) in
    record {
      there = λ shape.
          let weight = λ (k : Kinds) (one : Added). there_in (kinds_of k) (replayed_of one) shape in
          there shape ∙ ap₂ (λ a b. a + b) (of.there shape ∙ ap (λ k. sum_by (weight k) added) of_kinds.0) (rest.there shape)
          ∙ sym (sum_by-append (weight kinds) added (all_added addeds));
      played = λ shape.
          let weight = λ (k : Kinds) (one : Added). played_in (kinds_of k) (replayed_of one) shape in
          played shape ∙ ap₂ (λ a b. a + b) (of.played shape ∙ ap (λ k. sum_by (weight k) added) of_kinds.0) (rest.played shape)
          ∙ sym (sum_by-append (weight kinds) added (all_added addeds));
      first = λ shape. first_append share.rows (all_rows shares) shape
          ∙ ap₂ earlier (of.first shape ∙ ap (λ k. first_in k added shape) of_kinds.0) (rest.first shape)
          ∙ sym (first_in_append kinds added (all_added addeds) shape);
      moves = sum_by-cons (λ (s : Held). s.moves) share shares ∙ ap₂ (λ a b. a + b) of.moves rest.moves
          ∙ sym (sum_by-append (λ (one : Added). length one.occasions) added (all_added addeds));
      games = ap₂ (λ (a b : List ℕ). a ++ b) of.games rest.games ∙ sym (map-append (λ (one : Added). one.game) added (all_added addeds));
      among = λ shape. Prim.grind (arith, of.among shape, rest.among shape, there shape, played shape);
    }

-- ---- the numbers of their games
below_of : (games : ℕ) (added : List Added) → All (λ game. game < games) (numbers_of added) → AreBelow games added
below_of games [] within = tt
below_of games (one ∷ added) within =
    (All-head (λ game. game < games) one.game (numbers_of added) within, below_of games added (All-tail (λ game. game < games) one.game (numbers_of added) within))

within_all : (games : ℕ) (shares : List Held) → AllByRecursion (λ (share : Held). All (λ game. game < games) share.games) shares →
    All (λ game. game < games) (all_games shares)
within_all games [] within = All-nil (λ game. game < games)
within_all games (share ∷ shares) within = All-append (λ game. game < games) share.games (all_games shares) within.0 (within_all games shares within.1)

-- ---- all of them
module _ (kinds : Kinds) (games : ℕ) (addeds : List (List Added)) (shares : List Held) (h : HaveGames kinds games addeds shares) where
  all_of : AreTogether kinds addeds shares
  all_of = together kinds addeds shares h.each (recursion_from_All (λ (share : Held). share.kinds ≡ kinds) shares h.of_kinds)

  are_below : AreBelow games (all_added addeds)
  are_below = below_of games (all_added addeds) (subst (All (λ game. game < games)) all_of.games
      (within_all games shares (recursion_from_All (λ (share : Held). All (λ game. game < games) share.games) shares h.within)))

  are_covered : Covers games (numbers_of (all_added addeds))
  are_covered = subst (Covers games) all_of.games h.covers

  pub there_gathered : (shape : ℕ) → there_of (all_rows shares) shape ≡ there_sum kinds (replayed_games (all_added addeds) games) shape
  there_gathered shape = all_of.there shape ∙ sum_numbered (λ game. there_in (kinds_of kinds) game shape) games (all_added addeds) are_below are_covered

  pub played_gathered : (shape : ℕ) → played_of (all_rows shares) shape ≡ played_sum kinds (replayed_games (all_added addeds) games) shape
  played_gathered shape = all_of.played shape ∙ sum_numbered (λ game. played_in (kinds_of kinds) game shape) games (all_added addeds) are_below are_covered

  first_gathered : (shape : ℕ) → first_of (all_rows shares) shape ≡ first_game kinds (replayed_games (all_added addeds) games) shape
  first_gathered shape = all_of.first shape ∙ first_numbered kinds games (all_added addeds) shape are_below are_covered

  pub moves_gathered : all_moves shares ≡ sum_by (λ game. length game.occasions) (replayed_games (all_added addeds) games)
  moves_gathered = all_of.moves ∙ sum_numbered (λ (game : Replayed). length game.occasions) games (all_added addeds) are_below are_covered

  pub entry_gathered : (shape : ℕ) → gathered_entry (all_rows shares) shape ≡ counted_entry kinds (replayed_games (all_added addeds) games) shape
  entry_gathered shape = Prim.grind (arith, there_gathered shape, played_gathered shape, first_gathered shape)

  -- each game of a share is the one at the place of its number
  pub share_game_found : (added : List Added) (one : Added) → Contains addeds added → Contains added one →
      slice_get (replayed_games (all_added addeds) games) one.game ≡ Some (replayed_of one)
  share_game_found added one outer inner = game_found games (all_added addeds) one (Contains-flat_map (λ (x : List Added). x) addeds added one outer inner) are_below are_covered

  -- the dictionary of the shares is that of the games
  pub dictionary_of_shares : (contents : Contents) → IsGathered kinds games shares contents → IsDictionaryOf kinds (replayed_games (all_added addeds) games) contents
  dictionary_of_shares contents gathered = record {
    dictionary = gathered.dictionary;
    games_counted = gathered.games_counted ∙ sym (length-numbered games (all_added addeds));
    moves = gathered.moves ∙ moves_gathered;
    diamonds = gathered.diamonds;
    entries = λ shape. gathered.entries shape ∙ entry_gathered shape;
  }

-- ---- the entries of all shares, added up
-- the games that each share is of
games_each : (shares : List Held) → AllByRecursion IsShare shares → (addeds : List (List Added)) × AllZip IsShareOf addeds shares
games_each [] of = ([], tt)
games_each (share ∷ shares) of =
    let rest = games_each shares of.1 in
    (of.0.added ∷ rest.0, (of.0.is_of, rest.1))

module _ (canonical : CanonicalStays) (around : AroundStays) (kinds : Kinds) (games : ℕ) (shares : List Held) (entries : List Entry)
    (rises : IsStrictlyIncreasing (shapes_of entries)) (shapes : All IsShape entries)
    (found : ArePlayedThere (all_rows shares) → (shape : ℕ) → entry_of shape entries ≡ gathered_entry (all_rows shares) shape) where
  dictionary_of : (addeds : List (List Added)) → HaveGames kinds games addeds shares →
      IsDictionary (record { games = games; moves = all_moves shares; entries = entries; counts_diamonds = counts_diamonds kinds })
  dictionary_of addeds have =
      let all = replayed_games (all_added addeds) games in
      let among = (all_of kinds games addeds shares have).among in
      subst (λ m. IsDictionary (record { games = games; moves = m; entries = entries; counts_diamonds = counts_diamonds kinds })) (sym (moves_gathered kinds games addeds shares have))
      (subst (λ n. IsDictionary (record { games = n; moves = sum_by (λ (game : Replayed). length game.occasions) all; entries = entries; counts_diamonds = counts_diamonds kinds }))
      (length-numbered games (all_added addeds))
      (is_dictionary canonical around all entries rises kinds shapes
      (λ shape. found among shape ∙ entry_gathered kinds games addeds shares have shape)
      (λ shape.
      let there = there_gathered kinds games addeds shares have shape in
      let played = played_gathered kinds games addeds shares have shape in
      let few = among shape in
      omega arith)))

  pub gathered_from : (moves : ℕ) (diamonds : Bool) → All IsShare shares → All (λ (share : Held). share.kinds ≡ kinds) shares → AreWithin games shares → Covers games (all_games shares) →
      moves ≡ all_moves shares → diamonds ≡ counts_diamonds kinds → IsGathered kinds games shares (record { games = games; moves = moves; entries = entries; counts_diamonds = diamonds })
  gathered_from moves diamonds of of_kinds within covers moves_are diamonds_are =
      let lists = games_each shares (recursion_from_All IsShare shares of) in
      let have : HaveGames kinds games lists.0 shares = record { each = lists.1; of_kinds = of_kinds; within = within; covers = covers } in
      record {
        dictionary = rw (moves_are, diamonds_are) (dictionary_of lists.0 have);
        games_counted = refl;
        moves = moves_are;
        diamonds = diamonds_are;
        entries = found (all_of kinds games lists.0 shares have).among;
      }

module _ (canonical : CanonicalStays) (around : AroundStays) (kinds : Kinds) (games : ℕ) (shares : List Held) where
  -- what was counted by words, in order
  pub words_gathered : (entries : List Entry) → IsOfRows (all_rows shares) entries → Rises entries → All IsCountedEntry entries →
      (moves : ℕ) (diamonds : Bool) → All IsShare shares → All (λ (share : Held). share.kinds ≡ kinds) shares → AreWithin games shares → Covers games (all_games shares) →
      moves ≡ all_moves shares → diamonds ≡ counts_diamonds kinds → IsGathered kinds games shares (record { games = games; moves = moves; entries = entries; counts_diamonds = diamonds })
  words_gathered entries of rises counted =
      gathered_from canonical around kinds games shares entries (climbs_increasing 0 entries rises.0 rises.1)
      (All-weaker IsCountedEntry IsShape (λ e h. h.0) entries counted) (λ among. entry_is (all_rows shares) entries of rises counted among)
