-- What a list of entries counts of each pattern, all its entries of the pattern together: the sums, and the least first game.
use Rattle.std.specs.Prelude.{ℕ, ◌+◌, ◌<◌, ◌^◌, ◌==◌, if◌then◌else◌, min, List, [], ◌∷◌, Option, Some, None}
use Rattle.std.specs.List.{flat_map}
use Rattle.shape_dict.specs.declared.entries.Entry.{Entry}

-- what was counted of one pattern
pub record Total : Type 0 where
  pub there : ℕ
  pub played : ℕ
  pub first : Option ℕ

-- the lesser of two games, where None is no game
abbrev pub earlier : Option ℕ → Option ℕ → Option ℕ
earlier None other = other
earlier (Some game) None = Some game
earlier (Some game) (Some other) = Some (min game other)

-- two totals of one pattern together; None is no total
abbrev pub together : Option Total → Option Total → Option Total
together None other = other
together (Some one) None = Some one
together (Some one) (Some other) = Some (record {
  there = one.there + other.there;
  played = one.played + other.played;
  first = earlier one.first other.first;
})

-- what an entry counts of a pattern: none where it is of another
abbrev pub count_at : ℕ → Entry → Option Total
count_at shape entry =
    if entry.shape == shape then Some (record { there = entry.there; played = entry.played; first = entry.first }) else None

-- what a list of entries counts of a pattern: none where no entry is of it
abbrev pub total_of : ℕ → List Entry → Option Total
total_of shape [] = None
total_of shape (entry ∷ entries) = together (count_at shape entry) (total_of shape entries)

-- the entries of several lists, one list after another
abbrev pub all_of : List (List Entry) → List Entry
all_of lists = flat_map (λ entries. entries) lists

-- the entries of several workers, each with several lists
abbrev pub everything : List (List (List Entry)) → List Entry
everything workers = flat_map all_of workers

-- how often a pattern was there, and was played, and its least game, as its total says
abbrev pub there_of : Option Total → ℕ
there_of None = 0
there_of (Some total) = total.there

abbrev pub played_of : Option Total → ℕ
played_of None = 0
played_of (Some total) = total.played

abbrev pub first_of : Option Total → Option ℕ
first_of None = None
first_of (Some total) = total.first

-- what the entries count of each pattern, together, is below 2 ^ 64: so no sum of them is too large for 64 bits
abbrev pub HaveSmallSums : List Entry → Type 0
HaveSmallSums entries = (shape : ℕ) → there_of (total_of shape entries) + played_of (total_of shape entries) < 2 ^ 64

-- the entry of a pattern with this total
unfoldable pub entered : ℕ → Option Total → Option Entry
entered shape None = None
entered shape (Some total) = Some (record { shape = shape; there = total.there; played = total.played; first = total.first })
