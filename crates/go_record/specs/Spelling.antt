-- How numbers are spelled in a value. White bytes at its ends are dropped (this project's own), digits are decimal.
use Rattle.std.specs.Prelude.{ℕ, ◌+◌, ◌-◌, ◌*◌, ◌==◌, nat_le, ◌&&◌, Bool, Option, Some, None, List, [], ◌∷◌, reverse, if◌then◌else◌}
use Rattle.std.specs.List.{list_all, list_any, before_first, after_first}
use Rattle.sgf_core.specs.Bytes.{is_white}
use Rattle.go_board.specs.Extent.{Extent}

-- without the white bytes at the front
abbrev pub without_white_front : List ℕ → List ℕ
without_white_front [] = []
without_white_front (byte ∷ bytes) = if is_white byte then without_white_front bytes else byte ∷ bytes

-- without the white bytes at both ends
abbrev pub trimmed : List ℕ → List ℕ
trimmed bytes = reverse (without_white_front (reverse (without_white_front bytes)))

abbrev pub is_digit : ℕ → Bool
is_digit byte = nat_le 48 byte && nat_le byte 57

-- the number that decimal digits write after others, whose number is `before`
abbrev pub digits_after : ℕ → List ℕ → ℕ
digits_after before [] = before
digits_after before (digit ∷ digits) = digits_after (10 * before + (digit - 48)) digits

-- one digit or more
abbrev pub unsigned_of : List ℕ → Option ℕ
unsigned_of [] = None
unsigned_of (byte ∷ bytes) = if list_all is_digit (byte ∷ bytes) then Some (digits_after 0 (byte ∷ bytes)) else None

-- an optional plus sign, and digits: leading zeros and any length are allowed
abbrev pub number_of : List ℕ → Option ℕ
number_of [] = None
number_of (byte ∷ bytes) = if byte == 43 then unsigned_of bytes else unsigned_of (byte ∷ bytes)

-- a number from 1 to 52
abbrev pub within_sides : Option ℕ → Option ℕ
within_sides None = None
within_sides (Some n) = if nat_le 1 n && nat_le n 52 then Some n else None

-- a side of a board
abbrev pub side_of : List ℕ → Option ℕ
side_of bytes = within_sides (number_of bytes)

abbrev pub is_colon : ℕ → Bool
is_colon byte = byte == 58

abbrev pub extent_of : Option ℕ → Option ℕ → Option Extent
extent_of (Some columns) (Some rows) = Some (record { columns = columns; rows = rows })
extent_of _ _ = None

-- the size that a text without white ends spells
abbrev pub size_text : List ℕ → Option Extent
size_text [] = Some (record { columns = 19; rows = 19 })
size_text (byte ∷ bytes) =
    if list_any is_colon (byte ∷ bytes)
    then extent_of (side_of (trimmed (before_first is_colon (byte ∷ bytes)))) (side_of (trimmed (after_first is_colon (byte ∷ bytes))))
    else extent_of (side_of (byte ∷ bytes)) (side_of (byte ∷ bytes))

-- a size: nothing for 19 by 19, `n` for n by n, or `columns:rows`
abbrev pub size_of : List ℕ → Option Extent
size_of bytes = size_text (trimmed bytes)
