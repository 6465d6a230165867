-- The fault of a main line's actions is that of its record.
use Rattle.std.proofs.Common.{◌≡◌, true, List, Ok, Err, codes, ap, sym}
use Rattle.std.specs.List.{flat_map}
use Rattle.sgf_core.specs.Tree.{Node}
use Rattle.go_board.specs.Extent.{Extent}
use Rattle.go_record.specs.declared.faults.RecordFault.{RecordFault}
use Rattle.go_record.specs.declared.faults.RecordFault.TheVariants as fault
use Rattle.go_record.specs.Adding.{IsRecordOrMemory}
use Rattle.go_record.specs.Inner.Adding.{IsFaultOrMemory}
use Rattle.go_record.specs.Record.{collected, node_deeds, recorded, record_of, is_go, board_of, root_of, first_value}

record_with : (line : List Node) (size : Extent) (found : RecordFault) → is_go (first_value (codes "GM") (root_of line)) ≡ true →
    board_of (first_value (codes "SZ") (root_of line)) ≡ Ok size → collected (flat_map (node_deeds size) line) ≡ Err found → Err found ≡ record_of line
record_with line size found go board is = rw (go, board) (ap (recorded size) (sym is))

pub fault_of_record : (line : List Node) (size : Extent) (found : RecordFault) → is_go (first_value (codes "GM") (root_of line)) ≡ true →
    board_of (first_value (codes "SZ") (root_of line)) ≡ Ok size → IsFaultOrMemory (flat_map (node_deeds size) line) found → IsRecordOrMemory line (Err found)
fault_of_record line size (fault.BadSize at) go board is = record_with line size (fault.BadSize at) go board is
fault_of_record line size (fault.BadPoint at) go board is = record_with line size (fault.BadPoint at) go board is
fault_of_record line size (fault.OffBoard at) go board is = record_with line size (fault.OffBoard at) go board is
fault_of_record line size fault.Memory go board is = record { go = go; size = size; sized = board; some = is }
