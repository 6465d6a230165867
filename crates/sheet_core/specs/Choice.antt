-- The patterns that are chosen from a dictionary.
use Rattle.std.specs.Prelude.{◌≡◌, ℕ, ◌≤◌, ◌⊎◌, List, length, All}
use Rattle.std.specs.List.{AllPairs, Contains}
use Rattle.shape_core.specs.Word.{kind_of}
use Rattle.shape_core.specs.declared.words.Kind.{Kind}
use Rattle.shape_dict.specs.declared.entries.Entry.{Entry}
use Rattle.sheet_core.specs.declared.orders.Order.{Order}
use Rattle.sheet_core.specs.Orders.{GoesBefore}

-- a pattern of the kind, that was there at least this often
pub record Qualifies (kind : Kind) (least : ℕ) (entry : Entry) : Type 0 where
  pub of_kind : kind_of entry.shape ≡ kind
  pub often : least ≤ entry.there

-- the first patterns, in the order, of all those that qualify
pub record IsChoice (order : Order) (kind : Kind) (least most : ℕ) (entries chosen : List Entry) : Type 0 where
  pub known : All (Contains entries) chosen
  pub qualified : All (Qualifies kind least) chosen
  pub ordered : AllPairs (GoesBefore order) chosen
  pub few : length chosen ≤ most
  pub others : (entry : Entry) → Contains entries entry → Qualifies kind least entry →
      Contains chosen entry ⊎ ((length chosen ≡ most) × All (λ (one : Entry). GoesBefore order one entry) chosen)
