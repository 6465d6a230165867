-- Definitions that private contracts alone use, beside those of `Word`.
use Rattle.std.specs.Prelude.{ℕ, slice_set, bit_xor}
use Rattle.shape_core.specs.Word.{word_of, kind_of, codes_of, code_at}

-- the word with one code changed
unfoldable pub recoded : ℕ → ℕ → ℕ → ℕ
recoded word cell code = word_of (kind_of word) (slice_set (codes_of word) cell code)

-- the word with the code of a cell changed in the bits that the change has
abbrev pub with_change : ℕ → ℕ → ℕ → ℕ
with_change word cell change = recoded word cell (bit_xor (code_at word cell) change)
