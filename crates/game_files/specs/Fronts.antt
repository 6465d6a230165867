-- The first bytes that a reader keeps of what it gives.
use Rattle.std.specs.Prelude.{◌≡◌, ℕ, List, ◌++◌, take, Option}

-- a reader that keeps first bytes: those that it has kept, and those that it will give, where they are known
pub record Front : Type 0 where
  pub kept : List ℕ
  pub remaining : Option (List ℕ)

-- the first eight of the bytes that were given, or all where they are fewer
abbrev pub IsFrontOf : List ℕ → List ℕ → Type 0
IsFrontOf kept given = kept ≡ take 8 given

-- what is kept once more bytes are given
abbrev pub kept_after : List ℕ → List ℕ → List ℕ
kept_after kept given = take 8 (kept ++ given)
