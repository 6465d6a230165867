-- How often a number is in a list.
use Rattle.std.specs.Prelude.{ℕ, ◌==◌, List, count_by}

-- how often a game is in a list
abbrev pub times_of : List ℕ → ℕ → ℕ
times_of games game = count_by (λ one. one == game) games
