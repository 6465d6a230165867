-- What the words of a table show: for each number its key or none.
use Rattle.std.specs.Prelude.{ℕ, List, Option, Some, None, map}
use Rattle.std.proofs.Common.{zero, suc}
use Rattle.probe_core.specs.Sequential.{Table}
use Rattle.probe_core.specs.History.{word_of}

-- the key that a word shows: none at 0, else the number before the word
abbrev pub key_in : ℕ → Option ℕ
key_in zero = None
key_in (suc key) = Some key

-- the keys that all words show
abbrev pub table_of : List ℕ → Table
table_of words = map key_in words

-- the words that show these keys
abbrev pub words_showing : Table → List ℕ
words_showing table = map word_of table
