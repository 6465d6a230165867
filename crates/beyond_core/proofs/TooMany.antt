-- The pattern with which a counted collection's patterns are first more than some number, by its dictionary and one walk.
use Rattle.std.proofs.Common.{◌≡◌, ℕ, zero, suc, ◌+◌, ◌-◌, ◌<◌, ◌≤◌, nat_lt, Bool, true, false, cond, List, [], ◌∷◌, ◌++◌, length, take, All, Contains, Option, Some, None, refl, ap, sym, subst, ◌∙◌, inl, inr, arith}
use Rattle.std.specs.Prelude.{slice_get, filter}
use Rattle.std.proofs.lemmas.Bool.{cases_lt}
use Rattle.std.proofs.lemmas.Bool.Decides.{nat_tests}
use Rattle.std.proofs.lemmas.List.{take_all}
use Rattle.std.proofs.lemmas.List.Elements.{All-head, All-tail, All-weaker, All-contains_itself, filter_agree}
use Rattle.std.proofs.lemmas.Option.{same_Some}
use Rattle.sgf_core.specs.Tree.{main_line_of}
use Rattle.go_record.specs.Actions.{Actions, AreOnBoard}
use Rattle.go_record.proofs.OnBoard.{is_on_board}
use Rattle.game_core.proofs.OneGame.{games_of, one_game}
use Rattle.shape_core.specs.declared.words.Kinds.{Kinds}
use Rattle.shape_dict.specs.declared.entries.Entry.{Entry}
use Rattle.shape_dict.proofs.Climbing.{climbs_from_rises}
use Rattle.tally_core.specs.Beyond.{patterns_in, IsFirstBeyond}
use Rattle.tally_core.specs.Collection.{AreReplayed}
use Rattle.tally_core.specs.Counted.{IsCounted, IsCountFault}
use Rattle.tally_core.specs.Counts.{Replayed, kinds_of, there_in}
use Rattle.tally_core.specs.Games.{there_sum, played_sum, first_game, counted_entry}
use Rattle.tally_core.specs.Occasions.{AreOccasions}
use Rattle.tally_core.specs.Walk.{once_each, shapes_of}
use Rattle.tally_core.specs.declared.collections.Counted.{Counted}
use Rattle.tally_core.specs.declared.faults.TallyFault.{TallyFault}
use Rattle.tally_core.specs.declared.faults.TallyFault.TheVariants as tally
use Rattle.tally_core.proofs.Games.{first_of, first-some, replayed-length}
use Rattle.tally_core.proofs.GamesMet.{patterns_of_game}
use Rattle.tally_core.proofs.OneBeyond.{one-order}
use Rattle.tally_core.proofs.SamePositions.{HaveOneResult}
use Rattle.tally_core.proofs.Once.{has, has-is}
use Rattle.harvest_faults.specs.Faults.{same_fault}
use Rattle.beyond_core.specs.Refused.{IsCountRefused}
use Rattle.beyond_core.specs.Inner.TooMany.{is_below, entries_before, new_words, HasGame, IsFoundBy, IsNewAt}
use Rattle.beyond_core.proofs.FirstGames.{before_are, word_found}
use Rattle.tally_core.proofs.RisingEntries.{entry_found}

-- ---- faults

-- why a collection is not counted is why it is refused
pub count_refused : (bytes : List ℕ) (found : TallyFault) → IsCountFault bytes found → IsCountRefused bytes (same_fault found)
count_refused bytes tally.BadSettings is = is
count_refused bytes tally.Memory is = tt
count_refused bytes (tally.Sgf found) is = is
count_refused bytes tally.Overflow is = is

-- what a set has instead of a test changes nothing
pub found_new : (kinds : Kinds) (bytes : List ℕ) (entries : List Entry) (game place : ℕ) (t : ℕ → Bool) (found : Option ℕ) → ((w : ℕ) → t w ≡ has w (new_words game entries)) →
    IsFoundBy t kinds bytes game place found → IsNewAt kinds bytes entries game place found
found_new kinds bytes entries game place t found same h = record {
  meetings = h.meetings;
  met = h.met;
  found_is = h.found_is ∙ ap (λ ws. slice_get ws place) (filter_agree t (λ w. has w (new_words game entries)) same (once_each (shapes_of h.meetings)));
}

-- ---- a game among those that were replayed

record IsSplit (replayed : List Replayed) (n : ℕ) (actions : Actions) : Type 0 where
  one : Replayed
  rest : List Replayed
  split : replayed ≡ take n replayed ++ one ∷ rest
  next : take (n + 1) replayed ≡ take n replayed ++ one ∷ []
  size : one.size ≡ actions.size
  occasions : AreOccasions actions one.occasions

split_at : (games : List Actions) (replayed : List Replayed) (n : ℕ) (actions : Actions) → AreReplayed games replayed → slice_get games n ≡ Some actions → IsSplit replayed n actions
split_at [] [] n actions all is = absurd cc
split_at [] (one ∷ others) n actions all is = absurd all
split_at (game ∷ games) [] n actions all is = absurd all
split_at (game ∷ games) (one ∷ others) zero actions all is =
    let same : game ≡ actions = same_Some game actions is in
    record {
      one = one;
      rest = others;
      split = refl;
      next = refl;
      size = all.0 ∙ ap (λ (a : Actions). a.size) same;
      occasions = subst (λ (a : Actions). AreOccasions a one.occasions) same all.1;
    }
split_at (game ∷ games) (one ∷ others) (suc n) actions all is =
    let later = split_at games others n actions all.2 is in
    let more : suc n + 1 ≡ suc (n + 1) = omega arith in
    record {
      one = later.one;
      rest = later.rest;
      split = ap (λ gs. one ∷ gs) later.split;
      next = ap (λ k. take k (one ∷ others)) more ∙ ap (λ gs. one ∷ gs) later.next;
      size = later.size;
      occasions = later.occasions;
    }

-- ---- a dictionary has what its games have

-- an entry that is that of games has their first game of its word
first_is : (kinds : Kinds) (games : List Replayed) (shape : ℕ) (entry : Entry) → counted_entry kinds games shape ≡ Some entry → (0 < there_sum kinds games shape) × (entry.first ≡ first_game kinds games shape)
first_is kinds games shape entry is =
    let e : Entry = record { shape = shape; there = there_sum kinds games shape; played = played_sum kinds games shape; first = first_game kinds games shape } in
    elim (nat_lt 0 (there_sum kinds games shape)) as (λ b. nat_lt 0 (there_sum kinds games shape) ≡ b → cond b (Some e) None ≡ Some entry →
    (0 < there_sum kinds games shape) × (entry.first ≡ first_game kinds games shape)) [
      | true ↦ λ test found. ((let some : 0 < there_sum kinds games shape = Prim.grind (arith, nat_tests, test) in some), sym (ap (λ (a : Entry). a.first) (same_Some e entry found)))
      | false ↦ λ _ found. absurd cc
    ] refl is

-- and that is one of them
first_below : (kinds : Kinds) (games : List Replayed) (shape : ℕ) → 0 < there_sum kinds games shape → is_below (length games) (first_game kinds games shape) ≡ true
unfolding first_of
first_below kinds games shape some =
    let at = first_of (λ (g : Replayed). there_in (kinds_of kinds) g shape) games in
    let inside : at < length games = first-some (λ (g : Replayed). there_in (kinds_of kinds) g shape) games some in
    let test : nat_lt at (length games) ≡ true = Prim.grind (arith, nat_tests, inside) in
    ap (λ b. is_below (length games) (cond b (Some at) None)) test ∙ test

all_pass : (p : Entry → Bool) (es : List Entry) → All (λ e. p e ≡ true) es → filter p es ≡ es
all_pass p [] pass = refl
all_pass p (e ∷ es) pass =
    let passes : Entry → Type 0 = λ x. p x ≡ true in
    ap (λ b. cond b (e ∷ filter p es) (filter p es)) (All-head passes e es pass)
    ∙ ap (λ rest. e ∷ rest) (all_pass p es (All-tail passes e es pass))

module _ (kinds : Kinds) (bytes : List ℕ) (counted : Counted) (h : IsCounted kinds bytes counted) where
  abbrev entries : List Entry
  entries = counted.dictionary.entries

  one_before : (e : Entry) → Contains entries e → is_below (length h.games) e.first ≡ true
  one_before e among =
      let found = first_is kinds h.games e.shape e (sym (h.dictionary.entries e.shape) ∙ entry_found entries h.dictionary.dictionary.rises e among) in
      ap (is_below (length h.games)) found.1 ∙ first_below kinds h.games e.shape found.0

  -- all patterns have their first games below the number of games
  pub all_before : entries_before counted.dictionary.games entries ≡ entries
  all_before =
      ap (λ n. entries_before n entries) h.dictionary.games_counted
      ∙ all_pass (λ e. is_below (length h.games) e.first) entries
      (All-weaker (Contains entries) (λ (e : Entry). is_below (length h.games) e.first ≡ true) one_before entries (All-contains_itself entries))

  module _ (game most : ℕ) (few : length (entries_before game entries) ≤ most) (more : most < length (entries_before (game + 1) entries)) where
    counts : (n : ℕ) → length (entries_before n entries) ≡ length (once_each (patterns_in kinds (take n h.games)))
    counts = before_are kinds h.games entries (climbs_from_rises entries h.dictionary.dictionary.rises) h.dictionary.entries

    -- there is that game: past the last one no game adds a pattern
    all_met : (n : ℕ) → length h.games ≤ n → length (entries_before n entries) ≡ length (once_each (patterns_in kinds h.games))
    all_met n past = counts n ∙ ap (λ gs. length (once_each (patterns_in kinds gs))) (take_all n h.games past)

    not_past : length h.games ≤ game → ⊥
    not_past past = (let later : length h.games ≤ game + 1 = omega (arith, past) in let here = all_met game past in let there = all_met (game + 1) later in omega (arith, here, there, few, more))

    game_inside : game < length h.games
    game_inside = elim (cases_lt game (length h.games)) [ inl inside ↦ inside | inr past ↦ absurd (not_past past) ]

    pub has_game : HasGame bytes game
    has_game = record {
      report = counted.report;
      all = record { trees = h.trees; end = h.end; small = h.small; written = h.written; no_more = h.no_more; reported = h.reported };
      inside = omega (arith, game_inside, h.reported.games, replayed-length (games_of h.trees) h.games h.replayed);
    }

    -- the word at a place of those that its walk met and no game before it has
    word_new : HaveOneResult → (found : Option ℕ) → IsNewAt kinds bytes entries game (most - length (entries_before game entries)) found →
        (word : ℕ) × (found ≡ Some word) × IsFirstBeyond kinds bytes most game word
    word_new one_result found new =
        let met = new.met in
        let actions = met.actions in
        let is = met.written.is_of in
        let at = split_at (games_of h.trees) h.games game actions h.replayed (one_game bytes h.trees h.end game met.written.at met.written.end actions h.written h.no_more is) in
        let walked : Replayed = record { size = actions.size; occasions = met.walk.occasions } in
        let on : AreOnBoard actions = is_on_board (main_line_of is.tree) actions is.is_go in
        let order : once_each (shapes_of new.meetings) ≡ once_each (patterns_of_game kinds at.one) =
        met.walk.order ∙ ap once_each (one-order one_result (kinds_of kinds) actions walked at.one on refl at.size met.walk.replayed at.occasions) in
        let word = word_found kinds h.games entries (climbs_from_rises entries h.dictionary.dictionary.rises) h.dictionary.entries game at.one at.rest at.split at.next
        (λ w. has w (new_words game entries)) (λ w. has-is w (new_words game entries)) most (shapes_of new.meetings) order few more in (
          word.0,
          new.found_is ∙ word.1,
          record {
            trees = h.trees;
            end = h.end;
            games = h.games;
            written = h.written;
            replayed = h.replayed;
            word_is = word.2;
            game_is = word.3;
          },
        )

    -- the same, by what the code counted
    pub first_word : HaveOneResult → (all : List Entry) (before : ℕ) (found : Option ℕ) → all ≡ entries → before ≡ length (entries_before game entries) →
        IsNewAt kinds bytes all game (most - before) found → (word : ℕ) × (found ≡ Some word) × IsFirstBeyond kinds bytes most game word
    first_word one_result all before found same count new =
        word_new one_result found
        (subst (λ (es : List Entry). IsNewAt kinds bytes es game (most - length (entries_before game entries)) found) same
        (subst (λ (n : ℕ). IsNewAt kinds bytes all game (most - n) found) count new))
