-- How a number that may be missing is kept in a number.
use Rattle.std.specs.Prelude.{ℕ, zero, suc, Option, Some, None}

-- the number that is meant: none by 0, else one less
abbrev pub number_of : ℕ → Option ℕ
number_of zero = None
number_of (suc number) = Some number

-- what a number is kept as
abbrev pub kept : Option ℕ → ℕ
kept None = 0
kept (Some number) = suc number
