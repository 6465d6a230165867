-- What the dictionary of all shares has: for each pattern the sums of its rows, and the least of their games. Which games
-- these are: those of all shares, by their numbers.
use Rattle.std.specs.Prelude.{◌≡◌, ℕ, ◌<◌, ◌==◌, nat_lt, if◌then◌else◌, List, [], ◌∷◌, map, sum_by, Option, Some, None, All}
use Rattle.std.specs.List.{flat_map, AllZip}
use Rattle.shape_core.specs.declared.words.Kinds.{Kinds}
use Rattle.shape_core.specs.Word.{count_from}
use Rattle.shape_dict.specs.declared.entries.Entry.{Entry}
use Rattle.shape_dict.specs.Contents.{Contents, IsDictionary, entry_of}
use Rattle.tally_core.specs.Counts.{Replayed}
use Rattle.tally_core.specs.Games.{counts_diamonds}
use Rattle.gather_core.specs.declared.rows.Row.{Row}
use Rattle.gather_core.specs.Rows.{there_of, played_of, first_of}
use Rattle.gather_core.specs.Shares.{Held, Added, replayed_of, IsShareOf}
use Rattle.gather_core.specs.Covering.{all_games, Covers}

-- ---- rows
-- what rows count of a pattern, as the entry of a dictionary; a pattern that was never there has none
abbrev pub gathered_entry : List Row → ℕ → Option Entry
gathered_entry rows shape =
    if nat_lt 0 (there_of rows shape)
    then Some (record { shape = shape; there = there_of rows shape; played = played_of rows shape; first = first_of rows shape })
    else None

-- ---- shares
-- the rows of all shares, one share after another
abbrev pub all_rows : List Held → List Row
all_rows shares = flat_map (λ share. share.rows) shares

-- the moves of all shares
abbrev pub all_moves : List Held → ℕ
all_moves shares = sum_by (λ share. share.moves) shares

-- the dictionary of shares that have this many games together
pub record IsGathered (kinds : Kinds) (games : ℕ) (shares : List Held) (contents : Contents) : Type 0 where
  pub dictionary : IsDictionary contents
  pub games_counted : contents.games ≡ games
  pub moves : contents.moves ≡ all_moves shares
  pub diamonds : contents.counts_diamonds ≡ counts_diamonds kinds
  pub entries : (shape : ℕ) → entry_of shape contents.entries ≡ gathered_entry (all_rows shares) shape

-- ---- games
-- the games of all shares, one share after another
abbrev pub all_added : List (List Added) → List Added
all_added addeds = flat_map (λ added. added) addeds

-- each game of the shares is below this number
abbrev pub AreWithin : ℕ → List Held → Type 0
AreWithin games shares = All (λ share. All (λ game. game < games) share.games) shares

-- shares of these kinds, the first of the first games and so on, which have each number below this one once together, and
-- no other
pub record HaveGames (kinds : Kinds) (games : ℕ) (addeds : List (List Added)) (shares : List Held) : Type 0 where
  pub each : AllZip IsShareOf addeds shares
  pub of_kinds : All (λ share. share.kinds ≡ kinds) shares
  pub within : AreWithin games shares
  pub covers : Covers games (all_games shares)

-- the first game of this number, replayed; one without moves where no game has it
abbrev pub replayed_at : List Added → ℕ → Replayed
replayed_at [] game = record { size = record { columns = 0; rows = 0 }; occasions = [] }
replayed_at (one ∷ added) game = if one.game == game then replayed_of one else replayed_at added game

-- the games of the numbers below this one, replayed, in the order of their numbers
abbrev pub replayed_games : List Added → ℕ → List Replayed
replayed_games added games = map (replayed_at added) (count_from 0 games)
