use Rattle.std.proofs.Common.{◌≡◌, ◌++◌, ◌∙◌, ℕ, Vec, ap, sym, subst, refl, length}
use Rattle.std.specs.Global.{Global}
use Rattle.listing_core.specs.declared.listings.Listed.{Listed}
use Rattle.listing_core.specs.Listing.{listed_of, last_piece, IsListing}
use Rattle.listing_core.proofs.Endings.{is_listing, last_none, last_fault}
use Rattle.listing_core.proofs.listings.listing_of.Goals as goal
use Rattle.listing_core.proofs.listings.listing_of.Goals.{in-Some+in_ok-push_fault_piece, in_default}

pub returns-clause-listing : goal.returns-clause-listing
returns-clause-listing c =
    let asked = c.args.asked.now in
    let input = c.args.input.now in
    let text = c.push_lines.new.text.items in
    let new = c.match-ending.text.items in
    let ending = c.in_ok-ending.ending in
    let few = c.in_ok-trees.ensures.small.0 refl in
    let printed : new ≡ text ++ last_piece asked (listed_of ending.fault ending.report) ending.end (length input) =
    elim c.match-ending.branch [
      | in-Some+in_ok-push_fault_piece w ↦ last_fault asked text new ending.fault w.in-Some.fault ending.report ending.end (length input) w.in-Some.is
          (ap (λ (v : Vec ℕ Global). v.items) w.text-is ∙ w.in_ok-push_fault_piece.ensures)
      | in_default w ↦ ap (λ (v : Vec ℕ Global). v.items) w.text-is ∙ last_none asked text ending.fault ending.report ending.end (length input) w.in_default.is
    ] in
    subst (λ (l : Listed). IsListing asked (record { listed = l; report = ending.report }) input new) (sym c.listed_by.ensures)
    (is_listing asked input text new ending few c.in_ok-ending.ensures.ending printed)
