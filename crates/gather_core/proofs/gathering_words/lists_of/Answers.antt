use Rattle.std.proofs.Common.{◌≡◌, ◌++◌, List, length, map, sym, subst, ◌∙◌, ap, All}
use Rattle.std.proofs.lemmas.List.Elements.{All-push}
use Rattle.gather_core.proofs.Common.{Entry, Held, all_rows}
use Rattle.range_core.specs.Places.{place_ranges, range_of_place}
use Rattle.range_core.specs.Ranges.{AreDealtBy}
use Rattle.range_core.specs.Totals.{everything}
use Rattle.gather_core.specs.WordShares.{unnumbered}
use Rattle.gather_core.proofs.OfRows.{rows_push}
use Rattle.gather_core.proofs.gathering_words.lists_of.Goals as goal

pub loop-share-preserved : goal.loop-share-preserved
loop-share-preserved c =
    let inv = c.loop-share.invariant in
    let lists = c.loop-share.lists.items in
    let list = c.into_lists.result in
    let rest = c.next.new.self.rest.items in
    let items = c.in_ok-push.ensures.items in
    let Long = λ (one : List (List Entry)). length one ≡ place_ranges in
    let Dealt = AreDealtBy range_of_place in
    record {
      rows = ap (λ (l : List (List (List Entry))). map unnumbered (everything l) ++ all_rows rest) items
          ∙ rows_push lists list c.in-Some.share rest _ c.into_lists.ensures.rows
          (ap (λ (all : List Held). map unnumbered (everything lists) ++ all_rows all) (sym c.in-Some.ensures.steps.0) ∙ inv.rows);
      len = subst (All Long) (sym items) (All-push Long lists list inv.len c.into_lists.ensures.len);
      dealt = subst (All Dealt) (sym items) (All-push Dealt lists list inv.dealt c.into_lists.ensures.dealt);
    }
