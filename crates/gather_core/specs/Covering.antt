-- Games over several shares: how often each is in them.
use Rattle.std.specs.Prelude.{◌≡◌, ℕ, ◌<◌, ◌==◌, List, count_by}
use Rattle.std.specs.List.{flat_map}
use Rattle.gather_core.specs.Shares.{Held}

-- the games of all shares
abbrev pub all_games : List Held → List ℕ
all_games shares = flat_map (λ share. share.games) shares

-- how often a game is in a list
abbrev pub times_of : List ℕ → ℕ → ℕ
times_of games game = count_by (λ one. one == game) games

-- each number below this one is in the list once
abbrev pub Covers : ℕ → List ℕ → Type 0
Covers games list = (game : ℕ) → game < games → times_of list game ≡ 1
