use Rattle.std.proofs.Common.{length, ap, sym, subst, ◌∙◌}
use Rattle.range_core.specs.Ranges.{AreDealtBy}
use Rattle.range_core.specs.Places.{place_ranges, range_of_place}
use Rattle.range_core.proofs.Dealt.{empty_long, empty_dealt}
use Rattle.range_core.proofs.place_lists.PlaceLists.new.Goals as goal

pub invariant_of-result : goal.invariant_of-result
invariant_of-result c =
    let is = c.into_vec.ensures ∙ c.in_ok-empty.ensures in (
      ap length is ∙ empty_long place_ranges,
      subst (AreDealtBy range_of_place) (sym is) (empty_dealt range_of_place place_ranges),
    )
