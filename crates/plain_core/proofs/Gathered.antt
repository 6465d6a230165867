-- The entries of a map in which games were counted are those of the dictionary of these games.
use Rattle.std.proofs.Common.{◌≡◌, ℕ, ◌<◌, nat_lt, Bool, true, false, cond, List, length, Option, Some, None, refl, ap, sym, subst, ◌∙◌, arith, All}
use Rattle.std.specs.List.Sorted.{IsStrictlyIncreasing}
use Rattle.std.proofs.lemmas.Bool.Decides.{nat_tests}
use Rattle.shape_core.specs.declared.words.Kinds.{Kinds}
use Rattle.shape_dict.specs.declared.entries.Entry.{Entry}
use Rattle.shape_dict.specs.Contents.{IsDictionary}
use Rattle.plain_core.specs.Inner.Count.{Count}
use Rattle.tally_core.specs.Counts.{Replayed, kinds_of, there_in}
use Rattle.plain_core.specs.Inner.Counter.{CountsGames}
use Rattle.tally_core.specs.Games.{there_sum, played_sum, counts_diamonds, IsDictionaryOf}
use Rattle.range_core.specs.Entries.{IsShape}
use Rattle.plain_core.specs.Inner.Entries.{entered, AreEntered}
use Rattle.tally_core.specs.Inner.Entries.{shapes_of}
use Rattle.tally_core.proofs.CountedEntries.{AreCounted}
use Rattle.tally_core.proofs.PlayedPatterns.{CanonicalStays, AroundStays}
use Rattle.tally_core.proofs.RisingDictionary.{is_dictionary}
use Rattle.tally_core.proofs.Games.{first_of, first-some}

-- ---- the entry of a pattern
entered_numbers : (shape there played first games : ℕ) → (0 < there → first < games) →
    entered shape (cond (nat_lt 0 there) (Some (record { there = there; played = played; first = Some first })) None)
    ≡ cond (nat_lt 0 there) (Some (record { shape = shape; there = there; played = played; first = cond (nat_lt first games) (Some first) None })) None
unfolding entered
entered_numbers shape there played first games inside =
    elim (nat_lt 0 there) as (λ b. nat_lt 0 there ≡ b →
    entered shape (cond b (Some (record { there = there; played = played; first = Some first })) None)
    ≡ cond b (Some (record { shape = shape; there = there; played = played; first = cond (nat_lt first games) (Some first) None })) None) [
      | true ↦ λ some.
          let positive : 0 < there = Prim.grind (arith, nat_tests) in
          let within = inside positive in
          let test : nat_lt first games ≡ true = Prim.grind (arith, nat_tests) in
          ap (λ b. Some (record { shape = shape; there = there; played = played; first = cond b (Some first) None })) (sym test)
      | false ↦ λ none. refl
    ] refl

of_map : (kinds : Kinds) (games : List Replayed) (counts : ℕ → Option Count) (moves : ℕ) (entries : List Entry) → AreEntered counts entries →
    CountsGames kinds games counts moves → AreCounted kinds games entries
unfolding first_of
of_map kinds games counts moves entries same h shape =
    let there = λ (game : Replayed). there_in (kinds_of kinds) game shape in
    same shape
    ∙ ap (entered shape) (h.counted shape)
    ∙ entered_numbers shape (there_sum kinds games shape) (played_sum kinds games shape) (first_of there games) (length games) (first-some there games)

-- ---- the dictionary
exact : CanonicalStays → AroundStays → (kinds : Kinds) (games : List Replayed) (moves : ℕ) (counts : ℕ → Option Count) (entries : List Entry) →
    AreEntered counts entries → All IsShape entries → IsStrictlyIncreasing (shapes_of entries) → CountsGames kinds games counts moves →
    IsDictionaryOf kinds games (record { games = length games; moves = moves; entries = entries; counts_diamonds = counts_diamonds kinds })
exact canonical around kinds games moves counts entries same shapes rises h =
    let counted = of_map kinds games counts moves entries same h in
    record {
      dictionary = subst (λ m. IsDictionary (record { games = length games; moves = m; entries = entries; counts_diamonds = counts_diamonds kinds })) (sym h.moves_counted)
          (is_dictionary canonical around games entries rises kinds shapes counted h.among);
      games_counted = refl;
      moves = h.moves_counted;
      diamonds = refl;
      entries = counted;
    }

-- the dictionary of games, from the map in which they were counted
pub gathered : CanonicalStays → AroundStays → (kinds : Kinds) (replayed : List Replayed) (games moves : ℕ) (counts : ℕ → Option Count) (entries : List Entry) (diamonds : Bool) →
    AreEntered counts entries → All IsShape entries → IsStrictlyIncreasing (shapes_of entries) → diamonds ≡ counts_diamonds kinds →
    length replayed ≡ games → CountsGames kinds replayed counts moves →
    IsDictionaryOf kinds replayed (record { games = games; moves = moves; entries = entries; counts_diamonds = diamonds })
gathered canonical around kinds replayed games moves counts entries diamonds same shapes rises judged numbered h =
    subst (λ b. IsDictionaryOf kinds replayed (record { games = games; moves = moves; entries = entries; counts_diamonds = b })) (sym judged)
    (subst (λ n. IsDictionaryOf kinds replayed (record { games = n; moves = moves; entries = entries; counts_diamonds = counts_diamonds kinds })) numbered
    (exact canonical around kinds replayed moves counts entries same shapes rises h))
