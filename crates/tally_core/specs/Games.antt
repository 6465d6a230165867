-- The dictionary of a list of games, numbered from 0: for each pattern that was there, both sums over the games, and the
-- least game in which it was there.
use Rattle.std.specs.Prelude.{◌≡◌, ℕ, Bool, true, false, nat_lt, List, length, sum_by, position, Option, Some, None, if◌then◌else◌}
use Rattle.shape_core.specs.declared.words.Kinds.{Kinds}
use Rattle.shape_core.specs.declared.words.Kinds.TheVariants as kinds
use Rattle.shape_dict.specs.declared.entries.Entry.{Entry}
use Rattle.shape_dict.specs.Contents.{Contents, IsDictionary, entry_of}
use Rattle.tally_core.specs.Counts.{Replayed, kinds_of, there_in, played_in}

abbrev pub there_sum : Kinds → List Replayed → ℕ → ℕ
there_sum kinds games shape = sum_by (λ game. there_in (kinds_of kinds) game shape) games

abbrev pub played_sum : Kinds → List Replayed → ℕ → ℕ
played_sum kinds games shape = sum_by (λ game. played_in (kinds_of kinds) game shape) games

-- the least game in which a pattern was there
abbrev pub first_game : Kinds → List Replayed → ℕ → Option ℕ
first_game kinds games shape = position (λ game. nat_lt 0 (there_in (kinds_of kinds) game shape)) games

-- what a dictionary of these games has of a pattern
abbrev pub counted_entry : Kinds → List Replayed → ℕ → Option Entry
counted_entry kinds games shape =
    if nat_lt 0 (there_sum kinds games shape)
    then Some (record { shape = shape; there = there_sum kinds games shape; played = played_sum kinds games shape; first = first_game kinds games shape })
    else None

abbrev pub counts_diamonds : Kinds → Bool
counts_diamonds kinds.Squares = false
counts_diamonds kinds.Both = true

-- the dictionary of these games
pub record IsDictionaryOf (kinds : Kinds) (games : List Replayed) (contents : Contents) : Type 0 where
  pub dictionary : IsDictionary contents
  pub games_counted : contents.games ≡ length games
  pub moves : contents.moves ≡ sum_by (λ game. length game.occasions) games
  pub diamonds : contents.counts_diamonds ≡ counts_diamonds kinds
  pub entries : (shape : ℕ) → entry_of shape contents.entries ≡ counted_entry kinds games shape
