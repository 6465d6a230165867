-- Games with their places, as they are kept.
use Rattle.std.specs.Prelude.{ℕ, List, ◌++◌, Option, option_map, string_bytes}
use Rattle.std.specs.Fmt.{decimal}
use Rattle.go_record.specs.Actions.{Actions}
use Rattle.twins_core.specs.declared.seats.Place.{Place}
use Rattle.twins_core.specs.declared.seats.Seat.{Seat}
use Rattle.twins_core.specs.Twins.{Met, tab}

-- a game that is there, in a file of this name
abbrev pub met_at : Actions → Place → Option (List ℕ) → Met
met_at game place name = record { game = game; number = place.number; from = place.from; to = place.to; name = name }

-- a game that has this seat
abbrev pub met_in : Actions → Seat → Met
met_in game seat = met_at game seat.place (option_map string_bytes seat.name)

abbrev pub bounds_text : Place → List ℕ
bounds_text place = tab ++ decimal place.from ++ tab ++ decimal place.to
