-- The most bytes that an input may have: a limit of this project's own.
use Rattle.std.specs.Prelude.{ℕ, ◌^◌}

abbrev pub most_bytes : ℕ
most_bytes = 2 ^ 28
