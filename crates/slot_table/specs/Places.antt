-- Places in a history: lists of them that rise, how often one is in a list, and lists put together.
use Rattle.std.specs.Prelude.{ℕ, ◌+◌, ◌≤◌, ◌==◌, if◌then◌else◌, nat_lt, List, [], ◌∷◌}

-- how often a place is in a list
abbrev pub times : ℕ → List ℕ → ℕ
times k [] = 0
times k (x ∷ xs) = (if x == k then 1 else 0) + times k xs

-- the places rise, each above the one before it, from `low` on, and stay below `high`
abbrev pub IsRising : ℕ → List ℕ → ℕ → Type 0
IsRising low [] high = low ≤ high
IsRising low (x ∷ xs) high = (low ≤ x) × IsRising (x + 1) xs high

-- 1 for a place below n, and else 0
abbrev pub below : ℕ → ℕ → ℕ
below k n = if nat_lt k n then 1 else 0

-- a place put into a list that rises, so that it still does
abbrev pub inserted : ℕ → List ℕ → List ℕ
inserted x [] = x ∷ []
inserted x (y ∷ ys) = if nat_lt x y then x ∷ y ∷ ys else y ∷ inserted x ys

-- the places of both lists, rising
abbrev pub merged : List ℕ → List ℕ → List ℕ
merged [] ys = ys
merged (x ∷ xs) ys = inserted x (merged xs ys)
