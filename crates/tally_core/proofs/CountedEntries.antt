-- Entries that are, shape by shape, what games count.
use Rattle.std.proofs.Common.{◌≡◌, ℕ, ◌<◌, nat_lt, Bool, true, false, cond, List, [], ◌∷◌, filter, Some, None, ap, sym, ◌∙◌, arith, refl, ◌==◌, ◌+◌}
use Rattle.std.specs.Prelude.{sum_by, count_by}
use Rattle.std.specs.List.{AllByRecursion}
use Rattle.std.specs.List.Sorted.{IsStrictlyIncreasing}
use Rattle.std.proofs.lemmas.Bool.Decides.{nat_tests}
use Rattle.std.proofs.lemmas.List.Sums.{sum_by-cons}
use Rattle.shape_core.specs.declared.words.Kinds.{Kinds}
use Rattle.shape_dict.specs.declared.entries.Entry.{Entry}
use Rattle.shape_dict.specs.Contents.{entry_of, played_in}
use Rattle.tally_core.specs.Counts.{Replayed}
use Rattle.tally_core.specs.Games.{there_sum, played_sum, first_game, counted_entry}
use Rattle.tally_core.proofs.DoubleCounting.{sum-same}
use Rattle.tally_core.specs.Inner.Entries.{shapes_of}
use Rattle.tally_core.proofs.RisingEntries.{each_is_found}
use Rattle.tally_core.proofs.PlayedPatterns.{all_played, played_among_all}

-- the entry of each shape is what the games count of it
abbrev pub AreCounted : Kinds → List Replayed → List Entry → Type 0
AreCounted kinds games entries = (shape : ℕ) → entry_of shape entries ≡ counted_entry kinds games shape

-- an entry has what the games count of its shape
pub record IsCounted (kinds : Kinds) (games : List Replayed) (entry : Entry) : Type 0 where
  pub some : 0 < there_sum kinds games entry.shape
  pub there : entry.there ≡ there_sum kinds games entry.shape
  pub played : entry.played ≡ played_sum kinds games entry.shape
  pub first : entry.first ≡ first_game kinds games entry.shape

-- what the games count of a shape that was there
abbrev pub entry_there : Kinds → List Replayed → ℕ → Entry
entry_there kinds games shape =
    record { shape = shape; there = there_sum kinds games shape; played = played_sum kinds games shape; first = first_game kinds games shape }

pub counted_there : (kinds : Kinds) (games : List Replayed) (shape : ℕ) → 0 < there_sum kinds games shape → counted_entry kinds games shape ≡ Some (entry_there kinds games shape)
counted_there kinds games shape some =
    let test : nat_lt 0 (there_sum kinds games shape) ≡ true = Prim.grind (arith, nat_tests) in
    ap (λ b. cond b (Some (entry_there kinds games shape)) None) test

pub counted_nowhere : (kinds : Kinds) (games : List Replayed) (shape : ℕ) → there_sum kinds games shape ≡ 0 → counted_entry kinds games shape ≡ None
counted_nowhere kinds games shape none =
    let test : nat_lt 0 (there_sum kinds games shape) ≡ false = Prim.grind (arith, nat_tests) in
    ap (λ b. cond b (Some (entry_there kinds games shape)) None) test

is_counted : (kinds : Kinds) (games : List Replayed) (e : Entry) → counted_entry kinds games e.shape ≡ Some e → IsCounted kinds games e
is_counted kinds games e is =
    let there = there_sum kinds games e.shape in
    let counted = entry_there kinds games e.shape in
    elim (nat_lt 0 there) as (λ b. nat_lt 0 there ≡ b → cond b (Some counted) None ≡ Some e → IsCounted kinds games e) [
      | true ↦ λ test h.
          let same : counted ≡ e = cc in
          record {
            some = Prim.grind (arith, nat_tests);
            there = sym (ap (λ (x : Entry). x.there) same);
            played = sym (ap (λ (x : Entry). x.played) same);
            first = sym (ap (λ (x : Entry). x.first) same);
          }
      | false ↦ λ test h. absurd cc
    ] refl is

are_counted : (kinds : Kinds) (games : List Replayed) (all entries : List Entry) → AreCounted kinds games all → AllByRecursion (λ (e : Entry). entry_of e.shape all ≡ Some e) entries →
    AllByRecursion (IsCounted kinds games) entries
are_counted kinds games all [] counted found = tt
are_counted kinds games all (e ∷ entries) counted found = (is_counted kinds games e (sym (counted e.shape) ∙ found.0), are_counted kinds games all entries counted found.1)

pub each_counted : (kinds : Kinds) (games : List Replayed) (entries : List Entry) → IsStrictlyIncreasing (shapes_of entries) → AreCounted kinds games entries →
    AllByRecursion (IsCounted kinds games) entries
each_counted kinds games entries rises counted = are_counted kinds games entries entries counted (each_is_found entries rises)

-- ---- the plays of the entries that are kept
kept_step : (keep : Bool) (e : Entry) (entries : List Entry) (f : ℕ → ℕ) (shapes : List ℕ) → e.played ≡ f e.shape → played_in entries ≡ sum_by f shapes →
    played_in (cond keep (e ∷ entries) entries) ≡ sum_by f (cond keep (e.shape ∷ shapes) shapes)
kept_step true e entries f shapes first rest =
    sum_by-cons (λ (x : Entry). x.played) e entries ∙ ap (λ n. n + played_in entries) first ∙ ap (λ n. f e.shape + n) rest ∙ sym (sum_by-cons f e.shape shapes)
kept_step false e entries f shapes first rest = rest

kept_plays : (kinds : Kinds) (games : List Replayed) (keep : ℕ → Bool) (entries : List Entry) → AllByRecursion (IsCounted kinds games) entries →
    played_in (filter (λ e. keep e.shape) entries) ≡ sum_by (played_sum kinds games) (filter keep (shapes_of entries))
kept_plays kinds games keep [] counted = refl
kept_plays kinds games keep (e ∷ entries) counted =
    kept_step (keep e.shape) e (filter (λ x. keep x.shape) entries) (played_sum kinds games) (filter keep (shapes_of entries))
    counted.0.played (kept_plays kinds games keep entries counted.1)

-- they are how often the games play each of their shapes
pub plays_counted : (kinds : Kinds) (games : List Replayed) (keep : ℕ → Bool) (entries : List Entry) → IsStrictlyIncreasing (shapes_of entries) → AreCounted kinds games entries →
    played_in (filter (λ e. keep e.shape) entries) ≡ sum_by (λ s. count_by (λ c. c == s) (all_played kinds games)) (filter keep (shapes_of entries))
plays_counted kinds games keep entries rises counted =
    kept_plays kinds games keep entries (each_counted kinds games entries rises counted)
    ∙ sum-same (played_sum kinds games) (λ s. count_by (λ c. c == s) (all_played kinds games)) (filter keep (shapes_of entries)) (played_among_all kinds games)
