-- A rectangle that is filled column by column, row by row.
use Rattle.std.proofs.Common.{◌≡◌, ℕ, ◌+◌, ◌≤◌, nat_le, nat_lt, ◌&&◌, ◌==◌, arith}
use Rattle.std.proofs.lemmas.Bool.Decides.{nat_tests}

-- the points of one row are those of a rectangle of one row
pub one_row : (first last column row q r : ℕ) → first ≤ last → column ≡ last + 1 →
    (nat_le first q && nat_lt q column && (r == row)) ≡ (nat_le first q && nat_le q last && nat_le row r && nat_le r row)
one_row first last column row q r order done = Prim.grind (arith, nat_tests)

-- the rows so far are those of the rectangle
pub all_rows : (first last top bottom row q r : ℕ) → row ≡ bottom + 1 →
    (nat_le first q && nat_le q last && nat_le top r && nat_lt r row) ≡ (nat_le first q && nat_le q last && nat_le top r && nat_le r bottom)
all_rows first last top bottom row q r done = Prim.grind (arith, nat_tests)
