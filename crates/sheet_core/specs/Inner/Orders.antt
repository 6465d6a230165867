-- Definitions that private contracts alone use, beside those of `Orders`.
use Rattle.std.specs.Prelude.{Bool, nat_lt, ◌==◌, ◌&&◌, ◌||◌}
use Rattle.shape_dict.specs.declared.entries.Entry.{Entry}
use Rattle.sheet_core.specs.declared.orders.Order.{Order}
use Rattle.sheet_core.specs.Orders.{share_of}

-- the same, as a test
abbrev pub goes_before : Order → Entry → Entry → Bool
goes_before order entry other =
    nat_lt (share_of order other entry) (share_of order entry other)
    || (share_of order entry other == share_of order other entry && nat_lt entry.shape other.shape)
