-- What a dictionary of patterns holds (this project's own): how many games and moves were counted, and for each pattern
-- how often it was there, how often it was played, and in which game first, where that is known.
use Rattle.std.specs.Prelude.{◌≡◌, ℕ, ◌^◌, ◌<◌, ◌≤◌, ◌==◌, Bool, true, false, not, nat_lt, List, [], map, filter, sum_by, All, Option, IfSome, find}
use Rattle.std.specs.List.Sorted.{IsStrictlyIncreasing}
use Rattle.shape_core.specs.Symmetry.{least_image}
use Rattle.shape_core.specs.declared.words.Kind.{Kind}
use Rattle.shape_core.specs.declared.words.Kind.TheVariants as kind
use Rattle.shape_dict.specs.declared.entries.Entry.{Entry}

pub record Contents : Type 0 where
  pub games : ℕ
  pub moves : ℕ
  pub entries : List Entry
  pub counts_diamonds : Bool

-- the word of a square is below 2 ^ 50
abbrev pub is_square : Entry → Bool
is_square entry = nat_lt entry.shape (2 ^ 50)

-- whether a pattern is of the kind
abbrev pub is_of : Kind → Entry → Bool
is_of kind.Square entry = is_square entry
is_of kind.Diamond entry = not (is_square entry)

abbrev pub of_kind : Kind → List Entry → List Entry
of_kind which entries = filter (is_of which) entries

abbrev pub squares_of : List Entry → List Entry
squares_of entries = of_kind kind.Square entries

abbrev pub diamonds_of : List Entry → List Entry
diamonds_of entries = of_kind kind.Diamond entries

abbrev pub played_in : List Entry → ℕ
played_in entries = sum_by (λ entry. entry.played) entries

-- one pattern of a dictionary of this number of games
pub record IsEntry (games : ℕ) (entry : Entry) : Type 0 where
  pub word : entry.shape < 2 ^ 51
  pub canonical : least_image entry.shape ≡ entry.shape
  pub there : 1 ≤ entry.there
  pub played : entry.played ≤ entry.there
  pub first : IfSome entry.first (λ game. game < games)

-- each move of the counted games was played in one square, and in one diamond where diamonds are counted
pub record HasTotals (games moves : ℕ) (entries : List Entry) (counts_diamonds : Bool) : Type 0 where
  pub squares : played_in (squares_of entries) ≡ moves
  pub diamonds : counts_diamonds ≡ true → played_in (diamonds_of entries) ≡ moves
  pub no_games : games ≡ 0 → moves ≡ 0

-- what holds of every dictionary
pub record IsDictionary (contents : Contents) : Type 0 where
  pub rises : IsStrictlyIncreasing (map (λ entry. entry.shape) contents.entries)
  pub each : All (IsEntry contents.games) contents.entries
  pub totals : HasTotals contents.games contents.moves contents.entries contents.counts_diamonds
  pub uncounted : contents.counts_diamonds ≡ false → diamonds_of contents.entries ≡ []

-- the entry of a shape
abbrev pub entry_of : ℕ → List Entry → Option Entry
entry_of shape entries = find (λ entry. entry.shape == shape) entries
