use Rattle.std.proofs.Common.{◌≡◌, ◌++◌, All, map, length}
use Rattle.range_core.specs.Places.{place_ranges, range_of_place}
use Rattle.range_core.specs.Ranges.{AreDealtBy}
use Rattle.range_core.specs.Totals.{everything}
use Rattle.gather_core.specs.WordShares.{unnumbered}
use Rattle.gather_core.proofs.Common.{all_rows}
use Rattle.gather_core.proofs.gathering_words.lists_of.Given as goal

-- the lists so far, and the shares that are left
abbrev pub invariant-loop-share : goal.invariant-loop-share
invariant-loop-share l = record {
  rows : map unnumbered (everything l.lists.items) ++ all_rows l.share-iterator.rest.items ≡ all_rows l.fn.shares.items;
  len : All (λ one. length one ≡ place_ranges) l.lists.items;
  dealt : All (AreDealtBy range_of_place) l.lists.items;
}
