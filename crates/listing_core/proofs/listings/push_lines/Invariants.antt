use Rattle.std.proofs.Common.{◌≡◌, ◌≤◌, ◌-◌, length}
use Rattle.listing_core.specs.Inner.Reading.{ListsUpTo, all_in}
use Rattle.listing_core.proofs.listings.push_lines.Given as goal

abbrev pub invariant-tree : goal.invariant-tree
invariant-tree l = record {
  bytes : l.trees.bytes ≡ l.fn.trees.bytes;
  end : l.end ≡ l.trees.from;
  in_input : l.end ≤ length l.input;
  few : all_in l.report ≤ l.end;
  lists : ListsUpTo l.asked l.input l.end l.report l.text.items;
}

abbrev pub decreases-tree : goal.decreases-tree
decreases-tree l = length l.input - l.trees.from
