-- The definition of a record, on whole main lines.
use Rattle.std.proofs.Common.{◌≡◌, ℕ, List, [], ◌∷◌, refl, codes, Ok, Err}
use Rattle.sgf_core.specs.Tree.{Property, Node}
use Rattle.go_board.specs.declared.points.Colour.TheVariants as colour
use Rattle.go_board.specs.declared.points.Stone.TheVariants as stone
use Rattle.go_record.specs.declared.actions.Action.TheVariants as action
use Rattle.go_record.specs.declared.faults.RecordFault.TheVariants as fault
use Rattle.go_record.specs.declared.records.Kind.TheVariants as kind
use Rattle.go_record.specs.Record.{record_of}

-- a property of one value, whose bytes are at this place
abbrev property : List ℕ → ℕ → List ℕ → Property
property name at bytes = record { identifier = name; values = record { at = at; bytes = bytes } ∷ [] }

-- `(;SZ[2:1]B[ba];W[]AB[aa])`: in the second node the setup comes first
abbrev line : List Node
line =
    (property (codes "SZ") 5 (codes "2:1") ∷ property (codes "B") 11 (codes "ba") ∷ [])
    ∷ (property (codes "W") 17 [] ∷ property (codes "AB") 21 (codes "aa") ∷ []) ∷ []

whole_record : record_of line
    ≡ Ok (kind.Go (record {
      size = record { columns = 2; rows = 1 };
      actions = action.Move colour.Black (record { column = 1; row = 0 })
          ∷ action.Set (record { column = 0; row = 0 }) (record { column = 0; row = 0 }) stone.Black
          ∷ action.Pass colour.White ∷ [];
    }))
whole_record = refl

-- `(;GM[2]SZ[0])`
another_game : record_of ((property (codes "GM") 5 (codes "2") ∷ property (codes "SZ") 10 (codes "0") ∷ []) ∷ []) ≡ Ok kind.Other
another_game = refl

-- `(;SZ[53])`
bad_size : record_of ((property (codes "SZ") 5 (codes "53") ∷ []) ∷ []) ≡ Err (fault.BadSize 5)
bad_size = refl

-- `(;SZ[9];B[a];W[jj])`: the first fault is told
bad_point : record_of ((property (codes "SZ") 5 (codes "9") ∷ []) ∷ (property (codes "B") 10 (codes "a") ∷ []) ∷ (property (codes "W") 15 (codes "jj") ∷ []) ∷ []) ≡ Err (fault.BadPoint 10)
bad_point = refl

-- `(;SZ[9];B[jj])`
off_board : record_of ((property (codes "SZ") 5 (codes "9") ∷ []) ∷ (property (codes "B") 10 (codes "jj") ∷ []) ∷ []) ≡ Err (fault.OffBoard 10)
off_board = refl
