-- What wanted memory, and the fault of a run that it is.
use Rattle.std.specs.Prelude.{◌≡◌, ℕ, List, Ok}
use Rattle.sgf_core.specs.Tree.{GameTree, Node, main_line_of}
use Rattle.sgf_core.specs.Next.{IsNextTree}
use Rattle.sgf_core.specs.declared.faults.SgfFault.TheVariants as sgf
use Rattle.go_record.specs.Actions.{Actions}
use Rattle.go_record.specs.Adding.{KeepsAnAction}
use Rattle.go_record.specs.Record.{record_of}
use Rattle.go_record.specs.declared.faults.RecordFault.TheVariants as record_fault
use Rattle.go_record.specs.declared.records.Kind.TheVariants as kind
use Rattle.go_board.specs.declared.faults.BoardFault.TheVariants as board_fault
use Rattle.game_core.specs.Collection.{AreTrees}
use Rattle.engine_core.specs.declared.faults.RunFault.{RunFault}
use Rattle.engine_core.specs.declared.faults.RunFault.TheVariants as fault
use Rattle.listing_core.specs.Listing.{HasTree}
use Rattle.listing_core.specs.declared.wants.Want.{Want}
use Rattle.listing_core.specs.declared.wants.Want.TheVariants as want

abbrev pub fault_of : Want → RunFault
fault_of want.Tree = fault.Sgf sgf.Memory
fault_of want.Record = fault.Record record_fault.Memory
fault_of want.Board = fault.Board board_fault.Memory
fault_of want.Text = fault.Memory

-- reading a tree of this main line, and what is done with it, asks for this memory
abbrev pub Wants : List Node → Want → Type 0
Wants line want.Tree = Unit {0}
Wants line want.Record = KeepsAnAction line
Wants line want.Board = (game : Actions) × (record_of line ≡ Ok (kind.Go game))
Wants line want.Text = Unit {0}

-- the next tree asks for it
abbrev pub NextWants : List ℕ → ℕ → Want → Type 0
NextWants bytes from found =
    (at : ℕ) × (end : ℕ) × (tree : GameTree) × IsNextTree bytes from at end tree × Wants (main_line_of tree) found

-- the trees up to a place can be read
abbrev pub ReadsUpTo : List ℕ → ℕ → Type 0
ReadsUpTo bytes place = (trees : List GameTree) × AreTrees bytes 0 trees place

-- a tree that is next after others asks for it
abbrev pub IsWanted : List ℕ → Want → Type 0
IsWanted bytes found = HasTree (λ tree. Wants (main_line_of tree) found) bytes
