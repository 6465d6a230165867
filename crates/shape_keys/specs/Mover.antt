-- Who is to move, as a number.
use Rattle.std.specs.Prelude.{ℕ, ◌==◌, Option, Some, None, if◌then◌else◌}
use Rattle.go_board.specs.declared.points.Colour.{Colour}
use Rattle.go_board.specs.declared.points.Colour.TheVariants as colour

-- 1 is Black, 2 is White, and no other number is a mover
abbrev pub mover_of : ℕ → Option Colour
mover_of number = if number == 1 then Some colour.Black else (if number == 2 then Some colour.White else None)
