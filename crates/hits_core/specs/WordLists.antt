-- A list of words: a canonical word stands first in each line, and what follows a space is skipped. So lines that are cut
-- from a dictionary's text are such a list.
use Rattle.std.specs.Prelude.{◌≡◌, ◌≢◌, ◌⊎◌, ℕ, zero, suc, ◌^◌, ◌<◌, ◌==◌, Bool, List, [], ◌∷◌, ◌++◌}
use Rattle.std.specs.List.{before_first, after_first}
use Rattle.shape_core.specs.Symmetry.{least_image}
use Rattle.shape_dict.specs.Text.{word_text}

abbrev pub is_line_feed : ℕ → Bool
is_line_feed byte = byte == 10

-- the bytes of the first line, and those of the others
abbrev pub first_line : List ℕ → List ℕ
first_line bytes = before_first is_line_feed bytes

abbrev pub other_lines : List ℕ → List ℕ
other_lines bytes = after_first is_line_feed bytes

-- nothing follows, or a space and anything
abbrev pub IsSkipped : List ℕ → Type 0
IsSkipped [] = Unit {0}
IsSkipped (byte ∷ bytes) = byte ≡ 32

-- a line begins with this word, which is the least of its images
pub record HasWord (line : List ℕ) (word : ℕ) : Type 0 where
  pub small : word < 2 ^ 51
  pub canonical : least_image word ≡ word
  pub rest : List ℕ
  pub spelled : line ≡ word_text word ++ rest
  pub skipped : IsSkipped rest

-- these are the words of the lines; the last line may be without a line feed
abbrev pub AreWordsOf : List ℕ → List ℕ → Type 0
AreWordsOf bytes [] = bytes ≡ []
AreWordsOf bytes (word ∷ words) =
    (bytes ≢ []) × HasWord (first_line bytes) word × AreWordsOf (other_lines bytes) words

-- the line of this number, from 1, is the first that does not begin with a word
abbrev pub IsBadLine : List ℕ → ℕ → Type 0
IsBadLine bytes zero = ⊥
IsBadLine bytes (suc lines) =
    (bytes ≢ [])
    × (((lines ≡ 0) × ((word : ℕ) → HasWord (first_line bytes) word → ⊥))
    ⊎ ((word : ℕ) × HasWord (first_line bytes) word × IsBadLine (other_lines bytes) lines))
