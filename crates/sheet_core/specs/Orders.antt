-- Which of two patterns goes before the other.
use Rattle.std.specs.Prelude.{◌≡◌, ℕ, ◌*◌, ◌<◌, ◌⊎◌}
use Rattle.shape_dict.specs.declared.entries.Entry.{Entry}
use Rattle.sheet_core.specs.declared.orders.Order.{Order}
use Rattle.sheet_core.specs.declared.orders.Order.TheVariants as order
use Rattle.sheet_core.specs.Occasions.{occasions_of}
use Rattle.sheet_core.specs.Bounds.{bound_of}

-- What an order compares is a fraction. Its numerator:
abbrev pub worth_of : Order → Entry → ℕ
worth_of order.Played entry = entry.played
worth_of order.Urgency entry = entry.played
worth_of order.There entry = entry.there
worth_of order.Bound entry = bound_of entry

-- and its denominator:
abbrev pub scale_of : Order → Entry → ℕ
scale_of order.Played entry = 1
scale_of order.Urgency entry = occasions_of entry
scale_of order.There entry = 1
scale_of order.Bound entry = 1

-- the numerator over both denominators
abbrev pub share_of : Order → Entry → Entry → ℕ
share_of order entry other = worth_of order entry * scale_of order other

-- one goes before the other: its fraction is greater, or they are equal and its word is the lesser
abbrev pub GoesBefore : Order → Entry → Entry → Type 0
GoesBefore order entry other =
    (share_of order other entry < share_of order entry other)
    ⊎ ((share_of order entry other ≡ share_of order other entry) × (entry.shape < other.shape))
