-- What a table of the first games keeps.
use Rattle.std.specs.Prelude.{ℕ, List, Vec, map, option_map, string_bytes}
use Rattle.std.specs.BTreeMap.{BTreeMap}
use Rattle.twins_core.specs.declared.seats.Seat.{Seat}
use Rattle.twins_core.specs.Twins.{Kept}

-- what an entry keeps
abbrev pub kept_by : {A : Type 0} → Vec ℕ A × Seat → Kept
kept_by entry = record {
  code = entry.0.items;
  number = entry.1.place.number;
  from = entry.1.place.from;
  to = entry.1.place.to;
  name = option_map string_bytes entry.1.name;
}

abbrev pub kept_in : {A : Type 0} → BTreeMap (Vec ℕ A) Seat → List Kept
kept_in table = map kept_by table.entries
