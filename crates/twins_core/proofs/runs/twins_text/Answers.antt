use Rattle.std.proofs.Common.{sym, subst, refl, List, ℕ, option_map}
use Rattle.std.specs.Borrow.{Bor}
use Rattle.sgf_core.specs.Reading.{Reading}
use Rattle.listing_core.specs.Listing.{Stops}
use Rattle.listing_core.specs.declared.listings.Listed.{Listed}
use Rattle.listing_core.proofs.Endings.{stops}
use Rattle.twins_core.specs.Inner.Reading.{IsEnding}
use Rattle.twins_core.proofs.runs.twins_text.Goals as goal

pub returns-clause-text : goal.returns-clause-text
returns-clause-text c = λ before knows.
    let input = c.args.input.now in
    let text = c.meet_all.new.text.items in
    let ending = c.in_ok-ending.ending in
    let name = option_map (λ (n : Bor (List ℕ)). n.now) c.args.name in
    let is = subst (λ (r : Reading). IsEnding c.args.first name before c.meet_all.new.twins r.bytes text ending) c.in_ok-trees.ensures.begins (c.in_ok-ending.ensures.ending before knows) in
    record {
      trees = is.meets.trees;
      end = ending.end;
      mets = is.meets.mets;
      few = c.in_ok-trees.ensures.small.0 refl;
      of_trees = is.meets.are;
      stops = subst (λ (l : Listed). Stops l input is.meets.trees ending.end) (sym c.listed_by.ensures)
          (stops input ending.fault is.meets.trees ending.report ending.end is.meets.reported is.stops);
      reported = is.meets.reported;
      twins = is.meets.twins;
      known = is.meets.known;
    }
