-- How the name of a file is shown.
use Rattle.std.specs.Prelude.{ℕ, ◌==◌, nat_lt, ◌||◌, Bool, List, map, if◌then◌else◌}

-- a control byte
abbrev pub is_control : ℕ → Bool
is_control byte = nat_lt byte 32 || (byte == 127)

-- a control byte is shown as a question mark
abbrev pub shown_byte : ℕ → ℕ
shown_byte byte = if is_control byte then 63 else byte

abbrev pub shown_name : List ℕ → List ℕ
shown_name name = map shown_byte name
