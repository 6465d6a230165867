-- The definitions on worked values.
use Rattle.std.proofs.Common.{◌≡◌, refl, codes, Some, None, Ok, Err}
use Rattle.go_board.specs.declared.points.Colour.TheVariants as colour
use Rattle.go_board.specs.declared.points.Stone.TheVariants as stone
use Rattle.go_record.specs.declared.actions.Action.TheVariants as action
use Rattle.go_record.specs.declared.faults.RecordFault.TheVariants as fault
use Rattle.go_record.specs.Spelling.{size_of, number_of}
use Rattle.go_record.specs.Point.{point_of}
use Rattle.go_record.specs.Setup.{move_of, setup_of}

size_19 : size_of (codes "019") ≡ Some (record { columns = 19; rows = 19 })
size_19 = refl

size_white : size_of (codes " 2 : 1 ") ≡ Some (record { columns = 2; rows = 1 })
size_white = refl

size_nothing : size_of (codes " ") ≡ Some (record { columns = 19; rows = 19 })
size_nothing = refl

size_colon : size_of (codes ":") ≡ None
size_colon = refl

size_half : size_of (codes "9:") ≡ None
size_half = refl

size_53 : size_of (codes "53") ≡ None
size_53 = refl

number_plus : number_of (codes "+01") ≡ Some 1
number_plus = refl

last_point : point_of (codes "ZZ") ≡ Some (record { column = 51; row = 51 })
last_point = refl

tt_on_19 : move_of (record { columns = 19; rows = 19 }) colour.Black (record { at = 9; bytes = codes "tt" }) ≡ Ok (action.Pass colour.Black)
tt_on_19 = refl

tt_on_20 : move_of (record { columns = 20; rows = 20 }) colour.Black (record { at = 9; bytes = codes "tt" }) ≡ Ok (action.Move colour.Black (record { column = 19; row = 19 }))
tt_on_20 = refl

corners : setup_of (record { columns = 3; rows = 3 }) stone.Black (record { at = 9; bytes = codes "cc:bb" })
    ≡ Ok (Some (action.Set (record { column = 1; row = 1 }) (record { column = 2; row = 2 }) stone.Black))
corners = refl

off_board : setup_of (record { columns = 3; rows = 3 }) stone.Black (record { at = 10; bytes = codes "ad" }) ≡ Err (fault.OffBoard 10)
off_board = refl
