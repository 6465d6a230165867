-- Pattern words (this project's own): the sum over the 25 cells of code * 4 ^ cell, and 2 ^ 50 more for a diamond.
-- Codes: 0 empty, 1 black, 2 white, 3 off the board.
use Rattle.std.specs.Prelude.{ℕ, zero, suc, ◌+◌, ◌*◌, ◌/◌, ◌%◌, ◌^◌, nat_lt, List, [], ◌∷◌, map, if◌then◌else◌}
use Rattle.shape_core.specs.declared.words.Kind.{Kind}
use Rattle.shape_core.specs.declared.words.Kind.TheVariants as kind

-- the sum of code * 4 ^ cell, over the codes of the cells from 0 on
abbrev pub sum_of : List ℕ → ℕ
sum_of [] = 0
sum_of (code ∷ codes) = code + 4 * sum_of codes

-- what the words of a kind have beside the sum
abbrev pub mark_of : Kind → ℕ
mark_of kind.Square = 0
mark_of kind.Diamond = 2 ^ 50

-- the word of a kind with these codes
abbrev pub word_of : Kind → List ℕ → ℕ
word_of kind codes = mark_of kind + sum_of codes

-- words below 2 ^ 50 are those of squares
abbrev pub kind_of : ℕ → Kind
kind_of word = if nat_lt word (2 ^ 50) then kind.Square else kind.Diamond

-- the code of a cell
abbrev pub code_at : ℕ → ℕ → ℕ
code_at word cell = (word / 4 ^ cell) % 4

-- n numbers, from a first one on
abbrev pub count_from : ℕ → ℕ → List ℕ
count_from first zero = []
count_from first (suc n) = first ∷ count_from (suc first) n

-- the codes of the 25 cells
abbrev pub codes_of : ℕ → List ℕ
codes_of word = map (code_at word) (count_from 0 25)
