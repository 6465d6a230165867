-- In the games of a dictionary each pattern that was played was there, since the plays of the dictionary's entries add up
-- to the moves.
use Rattle.std.proofs.Common.{◌≡◌, ℕ, ◌≤◌, ◌==◌, Bool, true, false, not, cond, List, ◌∷◌, filter, refl, ap, sym, ◌∙◌, arith}
use Rattle.std.specs.Prelude.{sum_by, count_by}
use Rattle.std.proofs.lemmas.Bool.Decides.{nat_tests}
use Rattle.std.proofs.lemmas.List.Sums.{sum_by-cons}
use Rattle.go_board.specs.Extent.{Extent}
use Rattle.shape_core.specs.declared.words.Kinds.{Kinds}
use Rattle.shape_core.specs.declared.words.Kinds.TheVariants as which
use Rattle.shape_dict.specs.Contents.{Contents, played_in}
use Rattle.tally_core.specs.Occasions.{Occasion}
use Rattle.tally_core.specs.Counts.{Replayed, kinds_of, patterns_played}
use Rattle.tally_core.specs.Games.{there_sum, played_sum, IsDictionaryOf}
use Rattle.tally_core.proofs.DoubleCounting.{count-cons, counted_within}
use Rattle.tally_core.specs.Inner.Entries.{shapes_of}
use Rattle.tally_core.proofs.RisingEntries.{stands_once_at_most, stands_nowhere}
use Rattle.tally_core.proofs.CountedEntries.{counted_nowhere, plays_counted}
use Rattle.tally_core.proofs.PlayedPatterns.{CanonicalStays, AroundStays, is_low, one_square, one_diamond, no_diamonds_played, all_played, played_among_all, one_each}

-- a number that is no member, put before the members, which stand once each
still_once : (shape : ℕ) (shapes : List ℕ) → count_by (λ s. shape == s) shapes ≡ 0 → ((x : ℕ) → count_by (λ s. x == s) shapes ≤ 1) → (x : ℕ) → count_by (λ s. x == s) (shape ∷ shapes) ≤ 1
still_once shape shapes none few x =
    elim (x == shape) as (λ b. (x == shape) ≡ b → count_by (λ s. x == s) (shape ∷ shapes) ≤ 1) [
      | true ↦ λ same.
          let equal : x ≡ shape = Prim.grind (arith, nat_tests) in
          let absent : count_by (λ s. x == s) shapes ≡ 0 = ap (λ y. count_by (λ s. y == s) shapes) equal ∙ none in
          rw (count-cons (λ s. x == s) shape shapes, same, absent) (omega arith)
      | false ↦ λ other.
          let least = few x in
          rw (count-cons (λ s. x == s) shape shapes, other) (omega arith)
    ] refl

-- the plays of the kept shapes are all the moves, of which each plays one pattern that is kept: none is left for another
none_left : (keep : ℕ → Bool) (shape : ℕ) (shapes played : List ℕ) (moves : ℕ) → keep shape ≡ true → count_by (λ s. shape == s) shapes ≡ 0 →
    ((x : ℕ) → count_by (λ s. x == s) shapes ≤ 1) → sum_by (λ s. count_by (λ c. c == s) played) (filter keep shapes) ≡ moves → count_by keep played ≡ moves →
    count_by (λ c. c == shape) played ≡ 0
none_left keep shape shapes played moves kept none few total all =
    let within = counted_within keep (shape ∷ shapes) played (still_once shape shapes none few) in
    let front : filter keep (shape ∷ shapes) ≡ shape ∷ filter keep shapes = ap (λ b. cond b (shape ∷ filter keep shapes) (filter keep shapes)) kept in
    let apart = ap (sum_by (λ s. count_by (λ c. c == s) played)) front ∙ sum_by-cons (λ s. count_by (λ c. c == s) played) shape (filter keep shapes) in
    omega arith

no_plays : (kinds : Kinds) (games : List Replayed) (contents : Contents) → IsDictionaryOf kinds games contents → (keep : ℕ → Bool) →
    ((size : Extent) (occasion : Occasion) → count_by keep (patterns_played (kinds_of kinds) size occasion) ≡ 1) →
    played_in (filter (λ e. keep e.shape) contents.entries) ≡ contents.moves →
    (shape : ℕ) → keep shape ≡ true → there_sum kinds games shape ≡ 0 → played_sum kinds games shape ≡ 0
no_plays kinds games contents h keep one total shape kept none =
    let entries = contents.entries in
    played_among_all kinds games shape
    ∙ none_left keep shape (shapes_of entries) (all_played kinds games) contents.moves kept
    (stands_nowhere shape entries (h.entries shape ∙ counted_nowhere kinds games shape none))
    (λ x. stands_once_at_most x entries h.dictionary.rises)
    (sym (plays_counted kinds games keep entries h.dictionary.rises h.entries) ∙ total)
    (one_each kinds keep one games ∙ sym h.moves)

diamond_there : CanonicalStays → AroundStays → (kinds : Kinds) (games : List Replayed) (contents : Contents) → IsDictionaryOf kinds games contents → (shape : ℕ) →
    is_low shape ≡ false → there_sum kinds games shape ≡ 0 → played_sum kinds games shape ≡ 0
diamond_there canonical around which.Squares games contents h shape high none = no_diamonds_played canonical around games shape high
diamond_there canonical around which.Both games contents h shape high none =
    no_plays which.Both games contents h (λ word. not (is_low word)) (one_diamond canonical around) (h.dictionary.totals.diamonds h.diamonds) shape (ap not high) none

-- a pattern that was never there was never played
pub played_there : CanonicalStays → AroundStays → (kinds : Kinds) (games : List Replayed) (contents : Contents) → IsDictionaryOf kinds games contents → (shape : ℕ) →
    there_sum kinds games shape ≡ 0 → played_sum kinds games shape ≡ 0
played_there canonical around kinds games contents h shape none =
    elim (is_low shape) as (λ b. is_low shape ≡ b → played_sum kinds games shape ≡ 0) [
      | true ↦ λ low. no_plays kinds games contents h is_low (one_square canonical around kinds) h.dictionary.totals.squares shape low none
      | false ↦ λ high. diamond_there canonical around kinds games contents h shape high none
    ] refl
