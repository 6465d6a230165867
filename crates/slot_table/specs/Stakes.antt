-- Stakes: how much of the right to call a table a pass has. Whoever has all of it is the only one who can have called.
use Rattle.std.specs.Prelude.{◌≡◌, ℕ, ◌+◌, ◌-◌, ◌^◌, ◌≤◌, List, [], ◌∷◌, ⊤}

-- A stake is a list of pieces. The piece 0 is the whole, and each next number half of the one before: e is 1/2^e.

-- each piece is this number at most: so each is one or more pieces `fine`
abbrev pub AreUpTo : ℕ → List ℕ → Type 0
AreUpTo fine [] = ⊤
AreUpTo fine (piece ∷ stake) = (piece ≤ fine) × AreUpTo fine stake

-- how many pieces `fine` a stake is, where each of its pieces is `fine` at most
abbrev pub weight : ℕ → List ℕ → ℕ
weight fine [] = 0
weight fine (piece ∷ stake) = 2 ^ (fine - piece) + weight fine stake

-- two stakes are as much as one another
abbrev pub IsAsMuch : List ℕ → List ℕ → Type 0
IsAsMuch stake other = (fine : ℕ) → AreUpTo fine stake → AreUpTo fine other → weight fine stake ≡ weight fine other

-- a stake is the whole
abbrev pub IsWhole : List ℕ → Type 0
IsWhole stake = (fine : ℕ) → AreUpTo fine stake → weight fine stake ≡ 2 ^ fine

-- what a stake is after a split: one half of its first piece, and its other pieces
abbrev pub halved : List ℕ → List ℕ
halved [] = []
halved (piece ∷ stake) = (piece + 1) ∷ stake

-- what the split gives away: the other half of the first piece
abbrev pub half_of : List ℕ → List ℕ
half_of [] = []
half_of (piece ∷ stake) = (piece + 1) ∷ []
