-- What the result of reading a tree is against the record that its main line has.
use Rattle.std.specs.Prelude.{◌≡◌, ℕ, suc, ◌<◌, true, codes, List, [], ◌∷◌, Option, Some, None, Result, Ok, Err}
use Rattle.std.specs.List.{flat_map}
use Rattle.sgf_core.specs.Tree.{Node}
use Rattle.go_board.specs.Extent.{Extent}
use Rattle.go_record.specs.declared.actions.Action.{Action}
use Rattle.go_record.specs.declared.faults.RecordFault.{RecordFault}
use Rattle.go_record.specs.declared.faults.RecordFault.TheVariants as fault
use Rattle.go_record.specs.declared.records.Kind.{Kind}
use Rattle.go_record.specs.Record.{record_of, is_go, board_of, first_value, root_of, node_deeds}

-- how many actions come before the first fault
abbrev pub actions_before_fault : List (Result (Option Action) RecordFault) → ℕ
actions_before_fault [] = 0
actions_before_fault (Err found ∷ rest) = 0
actions_before_fault (Ok None ∷ rest) = actions_before_fault rest
actions_before_fault (Ok (Some action) ∷ rest) = suc (actions_before_fault rest)

-- reading this main line keeps an action, which takes memory: it is of Go, its board has a size, and some action comes
-- before the first fault
pub record KeepsAnAction (line : List Node) : Type 0 where
  pub go : is_go (first_value (codes "GM") (root_of line)) ≡ true
  pub size : Extent
  pub sized : board_of (first_value (codes "SZ") (root_of line)) ≡ Ok size
  pub some : 0 < actions_before_fault (flat_map (node_deeds size) line)

-- the result is the record of the main line, or out of memory, which is answered only where an action is kept
abbrev pub IsRecordOrMemory : List Node → Result Kind RecordFault → Type 0
IsRecordOrMemory line (Err fault.Memory) = KeepsAnAction line
IsRecordOrMemory line result = result ≡ record_of line
