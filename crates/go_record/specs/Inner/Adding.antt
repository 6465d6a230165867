-- Definitions that private contracts alone use, beside those of `Adding`.
use Rattle.std.specs.Prelude.{◌≡◌, ◌<◌, List, [], ◌++◌, map, Option, Some, None, Result, Ok, Err}
use Rattle.sgf_core.specs.Tree.{PropertyValue, Property}
use Rattle.go_board.specs.Extent.{Extent}
use Rattle.go_record.specs.declared.actions.Action.{Action}
use Rattle.go_record.specs.declared.faults.RecordFault.{RecordFault}
use Rattle.go_record.specs.declared.faults.RecordFault.TheVariants as fault
use Rattle.go_record.specs.declared.deeds.Deed.{Deed}
use Rattle.go_record.specs.declared.deeds.Deed.TheVariants as deed
use Rattle.go_record.specs.declared.names.Round.{Round}
use Rattle.go_record.specs.declared.names.Round.TheVariants as round
use Rattle.go_record.specs.Adding.{actions_before_fault}
use Rattle.go_record.specs.Setup.{move_of, setup_of, always}
use Rattle.go_record.specs.Record.{collected, setup_stone, move_colour, setups_of, moves_of}

-- these actions in front, where there is no fault
abbrev pub behind : List Action → Result (List Action) RecordFault → Result (List Action) RecordFault
behind actions (Ok more) = Ok (actions ++ more)
behind actions (Err found) = Err found

-- what a property's deed does with a value
abbrev pub action_of : Extent → Deed → PropertyValue → Result (Option Action) RecordFault
action_of size (deed.Setup stone) = setup_of size stone
action_of size (deed.Move colour) = λ value. always (move_of size colour value)

-- what each value of a property does
abbrev pub deeds_of : Extent → Option Deed → Property → List (Result (Option Action) RecordFault)
deeds_of size None property = []
deeds_of size (Some found) property = map (action_of size found) property.values

-- what each value of a property does in a round through its node
abbrev pub round_deeds : Extent → Round → Property → List (Result (Option Action) RecordFault)
round_deeds size round.Setups property = setups_of size (setup_stone property) property
round_deeds size round.Moves property = moves_of size (move_colour property) property

-- the results were added to the actions, or their first fault was answered, or memory was wanting, which can be only
-- where an action comes before the first fault
abbrev pub Adds : List (Result (Option Action) RecordFault) → List Action → List Action → Result (Unit {0}) RecordFault → Type 0
Adds deeds before after (Ok done) = behind before (collected deeds) ≡ Ok after
Adds deeds before after (Err fault.Memory) = 0 < actions_before_fault deeds
Adds deeds before after (Err found) = behind before (collected deeds) ≡ Err found

-- the fault is that of these actions, or memory was wanting for some that come before it
abbrev pub IsFaultOrMemory : List (Result (Option Action) RecordFault) → RecordFault → Type 0
IsFaultOrMemory deeds fault.Memory = 0 < actions_before_fault deeds
IsFaultOrMemory deeds found = collected deeds ≡ Err found
