-- Which file is the first whose stamp is another than before.
use Rattle.std.specs.Prelude.{◌≡◌, ◌<◌, ℕ, List, length, slice_get}
use Rattle.shape_merge.specs.declared.stamps.Stamp.{Stamp}

-- the files below this number have the stamps that they had
abbrev pub AreAlikeBelow : List Stamp → List Stamp → ℕ → Type 0
AreAlikeBelow before after n = (k : ℕ) → k < n → slice_get before k ≡ slice_get after k

-- all files have the stamps that they had
abbrev pub AreAlike : List Stamp → List Stamp → Type 0
AreAlike before after = AreAlikeBelow before after (length before)

-- the file of this number, from 0, has another stamp than it had, and those before it have theirs
pub record IsFirstUnlike (before after : List Stamp) (k : ℕ) : Type 0 where
  pub inside : k < length before
  pub unlike : slice_get before k ≡ slice_get after k → ⊥
  pub alike : AreAlikeBelow before after k
