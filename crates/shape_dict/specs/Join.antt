-- What two dictionaries are together (this project's own): the sums. The games of the right one follow those of the left.
use Rattle.std.specs.Prelude.{◌≡◌, ◌≢◌, ℕ, ◌+◌, ◌^◌, ◌<◌, ◌≤◌, ◌⊎◌, Option, Some, None, List, [], ◌∷◌, length}
use Rattle.shape_dict.specs.declared.entries.Entry.{Entry}
use Rattle.shape_dict.specs.Contents.{Contents, IsDictionary, entry_of}
use Rattle.shape_dict.specs.declared.faults.DictFault.{DictFault}
use Rattle.shape_dict.specs.declared.faults.DictFault.TheVariants as fault
use Rattle.shape_dict.specs.Merging.{moved_entry, summed_entry}

-- a pattern of both: the sums, and what the left says of its first game; one of the right alone has its own first game,
-- after the left's games
abbrev pub joined_entry : ℕ → Option Entry → Option Entry → Option Entry
joined_entry games None None = None
joined_entry games (Some left) None = Some left
joined_entry games None (Some right) = Some (moved_entry games right)
joined_entry games (Some left) (Some right) = Some (summed_entry left right)

-- `both` is the join of `left` and `right`, which count the same kinds
pub record IsJoin (left right both : Contents) : Type 0 where
  pub dictionary : IsDictionary both
  pub games : both.games ≡ left.games + right.games
  pub moves : both.moves ≡ left.moves + right.moves
  pub same_kinds : left.counts_diamonds ≡ right.counts_diamonds
  pub kinds : both.counts_diamonds ≡ left.counts_diamonds
  pub entries : (shape : ℕ) → entry_of shape both.entries ≡ joined_entry left.games (entry_of shape left.entries) (entry_of shape right.entries)

-- both have a pattern whose counts add up to more than 2 ^ 64 - 1
pub record HasLargeEntry (left right : List Entry) : Type 0 where
  pub shape : ℕ
  pub of_left : Entry
  pub of_right : Entry
  pub in_left : entry_of shape left ≡ Some of_left
  pub in_right : entry_of shape right ≡ Some of_right
  pub large : 2 ^ 64 ≤ of_left.there + of_right.there

-- some sum is over 2 ^ 64 - 1 (the plays of a pattern are at most its occurrences)
abbrev pub IsOverflow : Contents → Contents → Type 0
IsOverflow left right =
    (2 ^ 64 ≤ left.games + right.games) ⊎ (2 ^ 64 ≤ left.moves + right.moves) ⊎ HasLargeEntry left.entries right.entries

-- why there is no join: kinds that differ come first. Memory is asked for once the games and the moves are added up, and
-- only for patterns; so want of it may be answered in place of a pattern's sum that is too large, and of no other
abbrev pub IsJoinFault : Contents → Contents → DictFault → Type 0
IsJoinFault left right fault.MixedKinds = left.counts_diamonds ≢ right.counts_diamonds
IsJoinFault left right fault.Overflow = (left.counts_diamonds ≡ right.counts_diamonds) × IsOverflow left right
IsJoinFault left right fault.Memory =
    (left.counts_diamonds ≡ right.counts_diamonds) × (left.games + right.games < 2 ^ 64) × (left.moves + right.moves < 2 ^ 64)
    × (0 < length left.entries + length right.entries)
IsJoinFault left right found = ⊥

-- `sum` is `first` joined with each of the others in turn, the earlier ones on the left, where no sum on the way is too large
abbrev pub IsJoinOf : Contents → List Contents → Contents → Type 0
IsJoinOf first [] sum = sum ≡ first
IsJoinOf first (next ∷ others) sum =
    (both : Contents) × (IsOverflow first next → ⊥) × IsJoin first next both × IsJoinOf both others sum
