-- Entries that count what rows do, as the entries of a dictionary.
use Rattle.std.proofs.Common.{◌≡◌, ℕ, ◌<◌, List, [], ◌∷◌, ◌++◌, map, Option, Some, None, refl, ap, sym, ◌∙◌, arith, All, append_assoc}
use Rattle.std.proofs.lemmas.List.Concat.{flat_map-append}
use Rattle.gather_core.proofs.Common.{nat_tests, Entry, entry_of, Row, there_of, played_of, first_of, ArePlayedThere, gathered_entry, append-nil, map-append, Held, all_rows}
use Rattle.range_core.specs.Entries.{IsCountedEntry}
use Rattle.range_core.specs.Rising.{Rises}
use Rattle.range_core.specs.Totals.{Total, total_of, all_of, everything, entered, HaveSmallSums}
use Rattle.range_core.specs.Totals as total
use Rattle.range_core.proofs.Climbing.{Counts, climbs_entry, counted_total}
use Rattle.gather_core.proofs.WordRows.{rows_there, rows_played, rows_first}
use Rattle.gather_core.specs.WordShares.{unnumbered}
use Rattle.gather_core.specs.Inner.Words.{IsOfRows, HaveSmallCounts}

module _ (rows : List Row) (entries : List Entry) (of : IsOfRows rows entries) where
  there_is : (shape : ℕ) → there_of rows shape ≡ total.there_of (total_of shape entries)
  there_is shape = ap (λ (rs : List Row). there_of rs shape) (sym of.rows_are) ∙ rows_there of.met shape ∙ ap total.there_of (sym (of.totals shape))

  played_is : (shape : ℕ) → played_of rows shape ≡ total.played_of (total_of shape entries)
  played_is shape = ap (λ (rs : List Row). played_of rs shape) (sym of.rows_are) ∙ rows_played of.met shape ∙ ap total.played_of (sym (of.totals shape))

  first_is : (shape : ℕ) → first_of rows shape ≡ total.first_of (total_of shape entries)
  first_is shape = ap (λ (rs : List Row). first_of rs shape) (sym of.rows_are) ∙ rows_first of.met shape ∙ ap total.first_of (sym (of.totals shape))

  found : (shape : ℕ) (t : Option Total) → total_of shape entries ≡ t → Counts t → ArePlayedThere rows → entered shape t ≡ gathered_entry rows shape
  unfolding entered
  found shape None is counts among =
      let none : there_of rows shape ≡ 0 = there_is shape ∙ ap total.there_of is in
      Prim.grind (arith, nat_tests, none)
  found shape (Some t) is counts among =
      let there : there_of rows shape ≡ t.there = there_is shape ∙ ap total.there_of is in
      let played : played_of rows shape ≡ t.played = played_is shape ∙ ap total.played_of is in
      let first : first_of rows shape ≡ t.first = first_is shape ∙ ap total.first_of is in
      let some : 0 < t.there = omega (arith, counts, among shape, there, played) in
      Prim.grind (arith, nat_tests, there, played, first, some)

  -- they have small sums where the rows have small counts
  pub small_entries : HaveSmallCounts rows → HaveSmallSums entries
  small_entries small shape = omega (arith, small shape, there_is shape, played_is shape)

  -- each pattern has the entry that the rows make together
  pub entry_is : Rises entries → All IsCountedEntry entries → ArePlayedThere rows → (shape : ℕ) → entry_of shape entries ≡ gathered_entry rows shape
  entry_is rises counted among shape =
      climbs_entry 0 entries rises.0 rises.1 shape
      ∙ found shape (total_of shape entries) refl (counted_total shape entries counted) among

-- the lists of one share more
pub rows_push : (lists : List (List (List Entry))) (list : List (List Entry)) (share : Held) (rest : List Held) (whole : List Row) → map unnumbered (all_of list) ≡ share.rows →
    map unnumbered (everything lists) ++ all_rows (share ∷ rest) ≡ whole → map unnumbered (everything (lists ++ list ∷ [])) ++ all_rows rest ≡ whole
rows_push lists list share rest whole is known =
    let more = map unnumbered (everything lists) in
    ap (λ (es : List Entry). map unnumbered es ++ all_rows rest)
    (flat_map-append all_of lists (list ∷ []) ∙ ap (λ (l : List Entry). everything lists ++ l) (append-nil (all_of list)))
    ∙ ap (λ (rs : List Row). rs ++ all_rows rest) (map-append unnumbered (everything lists) (all_of list) ∙ ap (λ (rs : List Row). more ++ rs) is)
    ∙ append_assoc more share.rows (all_rows rest) ∙ known
