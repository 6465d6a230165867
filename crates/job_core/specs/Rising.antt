-- Rising numbers.
use Rattle.std.specs.Prelude.{ℕ, suc, ◌≤◌, List, [], ◌∷◌}

-- the numbers rise from `low` on, and each is below `high`
abbrev pub Rising : ℕ → List ℕ → ℕ → Type 0
Rising low [] high = low ≤ high
Rising low (game ∷ games) high = (low ≤ game) × Rising (suc game) games high

-- the number after the last of these, or 0
abbrev pub past : List ℕ → ℕ
past [] = 0
past (game ∷ []) = suc game
past (game ∷ next ∷ games) = past (next ∷ games)
