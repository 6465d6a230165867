-- The codes of a pattern's cells.
use Rattle.std.specs.Prelude.{ℕ, ◌<◌, List, All}

-- each is one: 0 empty, 1 black, 2 white, 3 off the board
abbrev pub AreCodes : List ℕ → Type 0
AreCodes codes = All (λ code. code < 4) codes
