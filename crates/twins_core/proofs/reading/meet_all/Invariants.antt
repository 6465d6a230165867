use Rattle.std.proofs.Common.{◌≡◌, ◌≤◌, ◌-◌, List, length, option_map}
use Rattle.twins_core.specs.Twins.{Met, Knows}
use Rattle.listing_core.specs.Inner.Reading.{all_in}
use Rattle.listing_core.specs.Inner.Wants.{ReadsUpTo}
use Rattle.twins_core.specs.Inner.Reading.{MeetsUpTo}
use Rattle.twins_core.proofs.reading.meet_all.Given as goal

abbrev pub invariant-tree : goal.invariant-tree
invariant-tree l = record {
  bytes : l.trees.bytes ≡ l.fn.trees.bytes;
  end : l.last ≡ l.trees.from;
  in_input : l.last ≤ length l.fn.trees.bytes;
  few : all_in l.report ≤ l.last;
  reads : ReadsUpTo l.fn.trees.bytes l.last;
  meets : (before : List Met) → Knows l.fn.twins before
      → MeetsUpTo l.first (option_map (λ n. n.now) l.name) before l.twins l.fn.trees.bytes l.last l.report l.text.items;
}

abbrev pub decreases-tree : goal.decreases-tree
decreases-tree l = length l.fn.trees.bytes - l.trees.from
