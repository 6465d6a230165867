-- Rows by their patterns: each pattern has a way through the places, and its row stands at one of them, where all places
-- before it on the way are taken.
use Rattle.std.specs.Prelude.{◌≡◌, ℕ, zero, suc, ◌+◌, ◌<◌, ◌==◌, nat_lt, Bool, true, List, length, filter, All, None, slice_index_or, if◌then◌else◌}
use Rattle.shape_dict.specs.declared.entries.Entry.{Entry}
use Rattle.range_core.specs.Entries.{IsShape}
use Rattle.range_core.specs.Places.{home_of}

-- the place after another one; the first comes after the last
abbrev pub next_place : ℕ → ℕ → ℕ
next_place places place = if place + 1 == places then 0 else place + 1

-- a pattern's places in their order, from the first on
abbrev pub way_of : ℕ → ℕ → ℕ → ℕ → ℕ
way_of factor places shape zero = home_of factor places shape
way_of factor places shape (suc step) = next_place places (way_of factor places shape step)

-- whether a row counts something, and so its place is taken
abbrev pub is_taken : Entry → Bool
is_taken row = nat_lt 0 (row.there + row.played)

-- the rows of the places that are taken
abbrev pub taken_of : List Entry → List Entry
taken_of rows = filter is_taken rows

-- what is at a place, and past the end nothing
abbrev pub row_at : List Entry → ℕ → Entry
row_at rows place = slice_index_or rows place (record { shape = 0; there = 0; played = 0; first = None })

-- a place is on a pattern's way, and all before it are taken
pub record IsReached (factor : ℕ) (rows : List Entry) (shape place : ℕ) : Type 0 where
  pub step : ℕ
  pub place_is : place ≡ way_of factor (length rows) shape step
  pub taken : (before : ℕ) → before < step → is_taken (row_at rows (way_of factor (length rows) shape before)) ≡ true

-- a place is taken by another pattern
pub record IsOther (rows : List Entry) (shape place : ℕ) : Type 0 where
  pub taken : is_taken (row_at rows place) ≡ true
  pub other : (row_at rows place).shape ≡ shape → ⊥

-- each pattern has one row at most, which its way leads to, and is the least of its images
pub record AreRows (factor : ℕ) (rows : List Entry) : Type 0 where
  pub reached : (place : ℕ) → is_taken (row_at rows place) ≡ true → IsReached factor rows (row_at rows place).shape place
  pub once : (one other : ℕ) → is_taken (row_at rows one) ≡ true → is_taken (row_at rows other) ≡ true → (row_at rows other).shape ≡ (row_at rows one).shape → other ≡ one
  pub shapes : All IsShape rows

-- what a pattern's way leads to: the place of its row, or the first free place, and then it has no row
pub record IsFound (factor : ℕ) (rows : List Entry) (shape place : ℕ) : Type 0 where
  pub within : place < length rows
  pub reached : IsReached factor rows shape place
  pub same : is_taken (row_at rows place) ≡ true → (row_at rows place).shape ≡ shape
  pub only : (other : ℕ) → is_taken (row_at rows other) ≡ true → (row_at rows other).shape ≡ shape → other ≡ place

-- no place is left for a pattern: each is taken by another one
abbrev pub HasNoPlace : List Entry → ℕ → Type 0
HasNoPlace rows shape = (place : ℕ) → place < length rows → IsOther rows shape place
