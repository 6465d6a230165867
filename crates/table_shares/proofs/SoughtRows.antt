-- The row of the least number among those that are looked for, row by row.
use Rattle.std.proofs.Common.{◌≡◌, ◌<◌, ◌≤◌, List, [], ◌∷◌, ◌++◌, Option, Some, None, refl, subst, arith, Contains, ⊎_elim}
use Rattle.table_shares.proofs.Found.{found_none}
use Rattle.table_shares.proofs.Common.{nat_tests, Contains-push, Contains-push_cases, Contains-get_or, Contains-append_left, Row, row_at, row_of, blank, IsSought, IsLeastSought}
use Rattle.table_shares.specs.declared.leasts.Sought.{Sought}
use Rattle.table_shares.specs.declared.leasts.Sought.TheVariants as sought
use Rattle.table_shares.proofs.Totalled.{found_with}

-- what holds of each row holds with one more
each_with : (P : Row → Type 0) (rows : List Row) (row : Row) → P row → ((other : Row) → Contains rows other → P other) →
    (other : Row) → Contains (rows ++ row ∷ []) other → P other
each_with P rows row last old other among =
    ⊎_elim (old other) (λ (new : row ≡ other). subst P new last) (Contains-push_cases rows row other among)

-- a row that is put at the end is found where no other has its number
found_last : (rows : List Row) (row : Row) → ((other : Row) → Contains rows other → other.number ≡ row.number → ⊥) →
    row_of (rows ++ row ∷ []) row.number ≡ Some row
found_last rows row absent =
    let none = found_none rows row.number (λ place low. absent (row_at rows place) (Contains-get_or rows place (blank 0 0) low)) in
    Prim.grind (arith, nat_tests, found_with rows (row ∷ []) row.number, none)

-- a row that is not looked for, or is of no lesser number
pub sought_stays : (looked : Sought) (rows : List Row) (least row : Row) → (IsSought looked row.number row.shape → least.number ≤ row.number) →
    IsLeastSought looked rows (Some least) → IsLeastSought looked (rows ++ row ∷ []) (Some least)
sought_stays (sought.Pattern shape) rows least row above h = (
  (h.0.0, Contains-append_left rows (row ∷ []) h.0.0 h.0.1, h.0.2, h.0.3),
  each_with (λ r. r.shape ≡ shape → least.number ≤ r.number) rows row above h.1,
)
sought_stays (sought.From number) rows least row above h =
    (h.0, Prim.grind (arith, found_with rows (row ∷ []) least.number, h.1), each_with (λ r. number ≤ r.number → least.number ≤ r.number) rows row above h.2)

pub sought_other : (looked : Sought) (rows : List Row) (least : Option Row) (row : Row) → (IsSought looked row.number row.shape → ⊥) →
    IsLeastSought looked rows least → IsLeastSought looked (rows ++ row ∷ []) least
sought_other looked rows (Some least) row other h = sought_stays looked rows least row (λ is. absurd (other is)) h
sought_other (sought.Pattern shape) rows None row other h =
    λ has. each_with (λ r. r.shape ≡ shape → ⊥) rows row other (λ r old is. h (r, old, is)) has.0 has.1 has.2
sought_other (sought.From number) rows None row other h = each_with (λ r. r.number < number) rows row (Prim.grind (arith, other)) h

-- the first row that is looked for
pub sought_first : (looked : Sought) (rows : List Row) (row : Row) → IsSought looked row.number row.shape → IsLeastSought looked rows None →
    IsLeastSought looked (rows ++ row ∷ []) (Some row)
sought_first (sought.Pattern shape) rows row is h = (
  (row, Contains-push rows row, refl, is),
  each_with (λ r. r.shape ≡ shape → row.number ≤ r.number) rows row (λ same. omega arith) (λ r old same. absurd (h (r, old, same))),
)
sought_first (sought.From number) rows row is h = (
  is,
  found_last rows row (λ r old same. Prim.grind (arith, h r old)),
  each_with (λ r. number ≤ r.number → row.number ≤ r.number) rows row (λ from. omega arith) (λ r old from. Prim.grind (arith, h r old)),
)

-- a row that is looked for of a lesser number
pub sought_lower : (looked : Sought) (rows : List Row) (least row : Row) → IsSought looked row.number row.shape → row.number < least.number →
    IsLeastSought looked rows (Some least) → IsLeastSought looked (rows ++ row ∷ []) (Some row)
sought_lower (sought.Pattern shape) rows least row is lower h = (
  (row, Contains-push rows row, refl, is),
  each_with (λ r. r.shape ≡ shape → row.number ≤ r.number) rows row (λ same. omega arith) (λ r old same. Prim.grind (arith, h.1 r old)),
)
sought_lower (sought.From number) rows least row is lower h = (
  is,
  found_last rows row (λ r old same. Prim.grind (arith, h.2 r old)),
  each_with (λ r. number ≤ r.number → row.number ≤ r.number) rows row (λ from. omega arith) (λ r old from. Prim.grind (arith, h.2 r old)),
)
