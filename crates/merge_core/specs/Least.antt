-- Which patterns of a join its text has: all of them, or its squares that were there often enough.
use Rattle.std.specs.Prelude.{ℕ, nat_le, ◌&&◌, Bool, true, false, List, filter, Option, Some, None}
use Rattle.shape_dict.specs.declared.entries.Entry.{Entry}
use Rattle.shape_dict.specs.Contents.{Contents, is_square, played_in}

-- whether a pattern stays: each does where no number is asked for, and otherwise a square that was there as often or oftener
abbrev pub is_kept : Option ℕ → Entry → Bool
is_kept None entry = true
is_kept (Some least) entry = is_square entry && nat_le least entry.there

-- the patterns that stay, with their counts
abbrev pub kept : Option ℕ → List Entry → List Entry
kept least entries = filter (is_kept least) entries

-- what stays of a dictionary: its games, and the patterns that stay; the moves are those at which one of them was played
abbrev pub kept_of : Option ℕ → Contents → Contents
kept_of None contents = contents
kept_of (Some least) contents = record {
  games = contents.games;
  moves = played_in (kept (Some least) contents.entries);
  entries = kept (Some least) contents.entries;
  counts_diamonds = false;
}
