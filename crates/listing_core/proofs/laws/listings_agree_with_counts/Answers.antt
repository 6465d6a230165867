use Rattle.listing_core.proofs.LineLists.{lines_are_of_trees}
use Rattle.listing_core.proofs.Agreed.{agrees, adds_up}
use Rattle.listing_core.proofs.laws.listings_agree_with_counts.Goals as goal

pub returns : goal.returns
returns c = record {
  trees = λ input number place end trees lines h. lines_are_of_trees input number place end trees lines h;
  occasions = λ kinds input first end trees lines counted h none is. adds_up c.replays_have_one_result.ensures kinds input first end trees lines counted h none is;
  report = λ kinds input first end trees lines counted h none is. agrees kinds input first end trees lines counted h none is;
}
