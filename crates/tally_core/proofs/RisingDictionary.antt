-- Rising entries that are, shape by shape, what games count are those of a dictionary.
use Rattle.std.proofs.Common.{◌≡◌, ℕ, ◌^◌, ◌<◌, ◌≤◌, ◌==◌, nat_lt, Bool, true, false, not, cond, List, [], ◌∷◌, filter, length, Some, None, IfSome, refl, ap, sym, subst, ◌∙◌, arith, All}
use Rattle.std.specs.Prelude.{sum_by, count_by}
use Rattle.std.specs.List.{AllByRecursion, position_or_len}
use Rattle.std.specs.List.Sorted.{IsStrictlyIncreasing}
use Rattle.std.proofs.lemmas.Bool.Decides.{nat_tests}
use Rattle.std.proofs.lemmas.List.Elements.{All-from_recursion, recursion_from_All}
use Rattle.go_board.specs.Extent.{Extent}
use Rattle.shape_core.specs.Symmetry.{least_image}
use Rattle.shape_core.specs.declared.words.Kinds.{Kinds}
use Rattle.shape_core.specs.declared.words.Kinds.TheVariants as which
use Rattle.shape_dict.specs.declared.entries.Entry.{Entry}
use Rattle.shape_dict.specs.Contents.{IsDictionary, diamonds_of, played_in, IsEntry, HasTotals}
use Rattle.tally_core.specs.Occasions.{Occasion}
use Rattle.tally_core.specs.Counts.{Replayed, kinds_of, there_in, patterns_played}
use Rattle.tally_core.specs.Games.{there_sum, played_sum, counts_diamonds}
use Rattle.tally_core.proofs.DoubleCounting.{counted_twice}
use Rattle.tally_core.specs.Inner.Entries.{shapes_of}
use Rattle.tally_core.proofs.RisingEntries.{stands_once}
use Rattle.tally_core.proofs.CountedEntries.{AreCounted, IsCounted, entry_there, counted_there, each_counted, plays_counted}
use Rattle.tally_core.proofs.PlayedPatterns.{CanonicalStays, AroundStays, is_low, one_square, one_diamond, no_diamonds, all_played, played_among_all, one_each}

-- ---- each entry
-- an entry's word is the least of its images
abbrev pub IsLeast : Entry → Type 0
IsLeast entry = (entry.shape < 2 ^ 51) × (least_image entry.shape ≡ entry.shape)

place_within : (n m : ℕ) → IfSome (cond (nat_lt n m) (Some n) None) (λ game. game < m)
place_within n m = elim (nat_lt n m) as (λ b. nat_lt n m ≡ b → IfSome (cond b (Some n) None) (λ game. game < m))
    [ true ↦ λ test. Prim.grind (arith, nat_tests) | false ↦ λ test. tt ] refl

is_entry : (kinds : Kinds) (games : List Replayed) (e : Entry) → played_sum kinds games e.shape ≤ there_sum kinds games e.shape → IsLeast e → IsCounted kinds games e →
    IsEntry (length games) e
is_entry kinds games e few shape counted =
    let some = counted.some in
    let there = counted.there in
    let played = counted.played in
    record {
      word = shape.0;
      canonical = shape.1;
      there = omega arith;
      played = omega arith;
      first = subst (λ first. IfSome first (λ game. game < length games)) (sym counted.first)
          (place_within (position_or_len (λ (game : Replayed). nat_lt 0 (there_in (kinds_of kinds) game e.shape)) games) (length games));
    }

are_entries : (kinds : Kinds) (games : List Replayed) (entries : List Entry) → ((shape : ℕ) → played_sum kinds games shape ≤ there_sum kinds games shape) →
    AllByRecursion IsLeast entries → AllByRecursion (IsCounted kinds games) entries → AllByRecursion (IsEntry (length games)) entries
are_entries kinds games [] few shapes counted = tt
are_entries kinds games (e ∷ entries) few shapes counted =
    (is_entry kinds games e (few e.shape) shapes.0 counted.0, are_entries kinds games entries few shapes.1 counted.1)

-- ---- where squares alone are counted, no entry is a diamond
squares_alone : CanonicalStays → AroundStays → (games : List Replayed) (entries : List Entry) → AllByRecursion (IsCounted which.Squares games) entries → diamonds_of entries ≡ []
squares_alone canonical around games [] counted = refl
squares_alone canonical around games (e ∷ entries) counted =
    let low : not (is_low e.shape) ≡ false = elim (is_low e.shape) as (λ b. is_low e.shape ≡ b → not b ≡ false) [
      | true ↦ λ is. refl
      | false ↦ λ high. let none = no_diamonds canonical around games e.shape high in let some = counted.0.some in absurd (omega arith)
    ] refl in
    ap (λ b. cond b (e ∷ diamonds_of entries) (diamonds_of entries)) low ∙ squares_alone canonical around games entries counted.1

uncounted_of : CanonicalStays → AroundStays → (kinds : Kinds) (games : List Replayed) (entries : List Entry) → AllByRecursion (IsCounted kinds games) entries →
    counts_diamonds kinds ≡ false → diamonds_of entries ≡ []
uncounted_of canonical around which.Squares games entries counted uncounted = squares_alone canonical around games entries counted
uncounted_of canonical around which.Both games entries counted uncounted = absurd cc

no_moves : (games : List Replayed) → length games ≡ 0 → sum_by (λ game. length game.occasions) games ≡ 0
no_moves [] none = refl
no_moves (game ∷ games) none = absurd (omega arith)

-- ---- the totals
module _ (canonical : CanonicalStays) (around : AroundStays) (games : List Replayed) (entries : List Entry) (rises : IsStrictlyIncreasing (shapes_of entries)) where
  -- a pattern that was played has an entry, and one only
  played_once : (kinds : Kinds) → AreCounted kinds games entries → ((shape : ℕ) → played_sum kinds games shape ≤ there_sum kinds games shape) →
      (shape : ℕ) → 0 < count_by (λ c. c == shape) (all_played kinds games) → count_by (λ s. shape == s) (shapes_of entries) ≡ 1
  played_once kinds counted few shape some =
      let played = played_among_all kinds games shape in
      let low = few shape in
      stands_once shape (entry_there kinds games shape) entries rises (counted shape ∙ counted_there kinds games shape (omega arith))

  -- the plays of the entries that are kept are the moves, where each occasion plays one pattern that is kept
  total : (kinds : Kinds) → AreCounted kinds games entries → ((shape : ℕ) → played_sum kinds games shape ≤ there_sum kinds games shape) →
      (keep : ℕ → Bool) → ((size : Extent) (occasion : Occasion) → count_by keep (patterns_played (kinds_of kinds) size occasion) ≡ 1) →
      played_in (filter (λ e. keep e.shape) entries) ≡ sum_by (λ game. length game.occasions) games
  total kinds counted few keep one =
      plays_counted kinds games keep entries rises counted
      ∙ counted_twice keep (shapes_of entries) (all_played kinds games) (played_once kinds counted few)
      ∙ one_each kinds keep one games

  diamonds_total : (kinds : Kinds) → AreCounted kinds games entries → ((shape : ℕ) → played_sum kinds games shape ≤ there_sum kinds games shape) →
      counts_diamonds kinds ≡ true → played_in (diamonds_of entries) ≡ sum_by (λ game. length game.occasions) games
  diamonds_total which.Squares counted few both = absurd cc
  diamonds_total which.Both counted few both = total which.Both counted few (λ word. not (is_low word)) (one_diamond canonical around)

  totals_of : (kinds : Kinds) → AreCounted kinds games entries → ((shape : ℕ) → played_sum kinds games shape ≤ there_sum kinds games shape) →
      HasTotals (length games) (sum_by (λ game. length game.occasions) games) entries (counts_diamonds kinds)
  totals_of kinds counted few = record {
    squares = total kinds counted few is_low (one_square canonical around kinds);
    diamonds = diamonds_total kinds counted few;
    no_games = no_moves games;
  }

  -- ---- the dictionary
  pub is_dictionary : (kinds : Kinds) → All IsLeast entries → AreCounted kinds games entries → ((shape : ℕ) → played_sum kinds games shape ≤ there_sum kinds games shape) →
      IsDictionary (record { games = length games; moves = sum_by (λ game. length game.occasions) games; entries = entries; counts_diamonds = counts_diamonds kinds })
  is_dictionary kinds shapes counted few =
      let each = each_counted kinds games entries rises counted in
      record {
        rises = rises;
        each = All-from_recursion (IsEntry (length games)) entries (are_entries kinds games entries few (recursion_from_All IsLeast entries shapes) each);
        totals = totals_of kinds counted few;
        uncounted = uncounted_of canonical around kinds games entries each;
      }
