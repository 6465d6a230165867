-- Why a list of words was not read, and what of it was.
use Rattle.std.specs.Prelude.{ℕ, ◌+◌, List, length, ◌++◌}
use Rattle.hits_core.specs.WordLists.{AreWordsOf, IsBadLine}
use Rattle.hits_core.specs.declared.word_lists.ListFault.{ListFault}
use Rattle.hits_core.specs.declared.word_lists.ListFault.TheVariants as fault

abbrev pub IsListFault : List ℕ → ListFault → Type 0
IsListFault bytes (fault.BadLine line) = IsBadLine bytes line
IsListFault bytes fault.Memory = Unit {0}

-- the words of the first lines were read, and these bytes are left: what their lines have comes after
pub record IsReadUpTo (bytes rest words : List ℕ) : Type 0 where
  pub others : (more : List ℕ) → AreWordsOf rest more → AreWordsOf bytes (words ++ more)
  pub bad : (line : ℕ) → IsBadLine rest line → IsBadLine bytes (length words + line)
