-- The bytes that the grammar of SGF FF[4] names. A byte is a number below 256.
use Rattle.std.specs.Prelude.{ℕ, Bool, ◌==◌, nat_le, ◌&&◌, ◌||◌}

abbrev pub open_parenthesis : ℕ
open_parenthesis = 40

abbrev pub close_parenthesis : ℕ
close_parenthesis = 41

abbrev pub semicolon : ℕ
semicolon = 59

abbrev pub open_bracket : ℕ
open_bracket = 91

abbrev pub backslash : ℕ
backslash = 92

abbrev pub close_bracket : ℕ
close_bracket = 93

-- white bytes: 09 to 0D and 20, in hexadecimal
abbrev pub is_white : ℕ → Bool
is_white byte = (nat_le 9 byte && nat_le byte 13) || (byte == 32)

abbrev pub is_upper : ℕ → Bool
is_upper byte = nat_le 65 byte && nat_le byte 90

abbrev pub is_lower : ℕ → Bool
is_lower byte = nat_le 97 byte && nat_le byte 122

-- an ASCII letter
abbrev pub is_letter : ℕ → Bool
is_letter byte = is_upper byte || is_lower byte
