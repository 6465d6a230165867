-- What one value of a move or a setup property does, or its fault. The fault's place is that of the value.
use Rattle.std.specs.Prelude.{ℕ, ◌==◌, nat_le, min, max, ◌&&◌, Bool, true, false, Option, Some, None, Result, Ok, Err, List, [], ◌∷◌, if◌then◌else◌}
use Rattle.std.specs.List.{list_any, before_first, after_first}
use Rattle.sgf_core.specs.Tree.{PropertyValue}
use Rattle.go_board.specs.Extent.{Extent}
use Rattle.go_board.specs.Point.{is_on}
use Rattle.go_board.specs.declared.points.Point.{Point}
use Rattle.go_board.specs.declared.points.Colour.{Colour}
use Rattle.go_board.specs.declared.points.Stone.{Stone}
use Rattle.go_record.specs.declared.actions.Action.{Action}
use Rattle.go_record.specs.declared.actions.Action.TheVariants as action
use Rattle.go_record.specs.declared.faults.RecordFault.{RecordFault}
use Rattle.go_record.specs.declared.faults.RecordFault.TheVariants as fault
use Rattle.go_record.specs.Spelling.{trimmed, is_colon}
use Rattle.go_record.specs.Point.{point_of}

-- a pass: nothing, and where both sides are at most 19 also `tt` (SGF FF[3] and before)
abbrev pub is_pass : Extent → List ℕ → Bool
is_pass size [] = true
is_pass size (column ∷ row ∷ []) = column == 116 && row == 116 && nat_le size.columns 19 && nat_le size.rows 19
is_pass size _ = false

-- a stone played at a spelled point
abbrev pub played : Extent → Colour → ℕ → Option Point → Result Action RecordFault
played size colour at None = Err (fault.BadPoint at)
played size colour at (Some point) =
    if is_on size point then Ok (action.Move colour point) else Err (fault.OffBoard at)

-- the move of a value: a pass or a point
abbrev pub move_of : Extent → Colour → PropertyValue → Result Action RecordFault
move_of size colour value =
    if is_pass size (trimmed value.bytes) then Ok (action.Pass colour)
    else played size colour value.at (point_of (trimmed value.bytes))

-- the whole rectangle that two spelled points span, corners in any order
abbrev pub spanned : Extent → Stone → ℕ → Option Point → Option Point → Result Action RecordFault
spanned size stone at (Some p) (Some q) =
    if is_on size p && is_on size q
    then Ok (action.Set (record { column = min p.column q.column; row = min p.row q.row })
    (record { column = max p.column q.column; row = max p.row q.row }) stone)
    else Err (fault.OffBoard at)
spanned size stone at _ _ = Err (fault.BadPoint at)

-- an action where there is no fault
abbrev pub always : Result Action RecordFault → Result (Option Action) RecordFault
always (Ok action) = Ok (Some action)
always (Err found) = Err found

-- the setup that a text without white ends spells
abbrev pub setup_text : Extent → Stone → ℕ → List ℕ → Result (Option Action) RecordFault
setup_text size stone at [] = Ok None
setup_text size stone at (byte ∷ bytes) =
    if list_any is_colon (byte ∷ bytes)
    then always (spanned size stone at (point_of (trimmed (before_first is_colon (byte ∷ bytes)))) (point_of (trimmed (after_first is_colon (byte ∷ bytes)))))
    else always (spanned size stone at (point_of (byte ∷ bytes)) (point_of (byte ∷ bytes)))

-- the setup of a value: nothing, a point, or two points with a colon between them
abbrev pub setup_of : Extent → Stone → PropertyValue → Result (Option Action) RecordFault
setup_of size stone value = setup_text size stone value.at (trimmed value.bytes)
