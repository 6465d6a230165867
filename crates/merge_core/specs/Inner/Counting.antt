-- Entries that are counted one after another.
use Rattle.std.specs.Prelude.{◌≡◌, ℕ, List, ◌++◌, Option}
use Rattle.shape_dict.specs.declared.entries.Entry.{Entry}
use Rattle.merge_core.specs.declared.tallies.Tally.{Tally}
use Rattle.merge_core.specs.Inner.Ranges.{IsCountOf}

-- the first of these entries were counted, and the others are still to come
pub record HasCounted (least : Option ℕ) (counts : Tally) (Rest : List Entry → Type 0) (all : List Entry) : Type 0 where
  pub given : List Entry
  pub others : List Entry
  pub parts : all ≡ given ++ others
  pub counted : IsCountOf least given counts
  pub rest : Rest others
