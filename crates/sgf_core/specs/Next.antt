-- Which tree of the input is next, or which fault the next tree has. Places are byte offsets in the whole input, from 0.
use Rattle.std.specs.Prelude.{◌≡◌, ℕ, ◌+◌, ◌<◌, ◌≤◌, IsTrue, List, ◌∷◌, ◌++◌, length, drop, slice_range}
use Rattle.std.specs.List.{list_all}
use Rattle.sgf_core.specs.Bytes.{is_white, is_letter, open_parenthesis, semicolon}
use Rattle.sgf_core.specs.Tree.{GameTree}
use Rattle.sgf_core.specs.Grammar.{WritesTree, IsGoodFront}

-- a tree begins where a parenthesis, any white bytes and a semicolon follow one another (this project's own reading)
pub record BeginsTree (text : List ℕ) : Type 0 where
  pub white : List ℕ
  pub rest : List ℕ
  pub begins : text ≡ open_parenthesis ∷ white ++ semicolon ∷ rest
  pub is_white : IsTrue (list_all is_white white)

-- the first place, from a place on, at which a tree begins
pub record IsFirstBegin (bytes : List ℕ) (from at : ℕ) : Type 0 where
  pub after : from ≤ at
  pub begins : BeginsTree (drop at bytes)
  pub first : (earlier : ℕ) → from ≤ earlier → earlier < at → BeginsTree (drop earlier bytes) → ⊥

-- no tree begins from a place on
abbrev pub HasNoTree : List ℕ → ℕ → Type 0
HasNoTree bytes from = (at : ℕ) → from ≤ at → BeginsTree (drop at bytes) → ⊥

-- the next tree from a place on, with its bounds: its first parenthesis is at `at`, and `end` is the place
-- after its last
pub record IsNextTree (bytes : List ℕ) (from at end : ℕ) (tree : GameTree) : Type 0 where
  pub first : IsFirstBegin bytes from at
  pub before_end : at ≤ end
  pub in_input : end ≤ length bytes
  pub writes : WritesTree at tree (slice_range bytes at end)

-- a tree begins, and no front of what follows is a tree
pub record IsUnwritten (bytes : List ℕ) (from at : ℕ) : Type 0 where
  pub first : IsFirstBegin bytes from at
  pub no_tree : (end : ℕ) → (tree : GameTree) → WritesTree at tree (slice_range bytes at end) → ⊥

-- the input ends within the tree that begins at `at`: all of it is a good front
pub record IsTruncated (bytes : List ℕ) (from at : ℕ) : Type 0 where
  pub begun : IsUnwritten bytes from at
  pub good : IsGoodFront at (drop at bytes)

-- `bad` is the place of the first byte that turns a good front into one that is not good
pub record TurnsBad (bytes : List ℕ) (from at bad : ℕ) : Type 0 where
  pub begun : IsUnwritten bytes from at
  pub after : at ≤ bad
  pub in_input : bad < length bytes
  pub good : IsGoodFront at (slice_range bytes at bad)
  pub turns : IsGoodFront at (slice_range bytes at (bad + 1)) → ⊥

-- the text ends with a letter and white bytes. Of a good front this means an identifier: a letter at the end of a value
-- would be followed by a byte that the value may have, so no byte there turns the front into one that is not good
pub record EndsWithIdentifier (text : List ℕ) : Type 0 where
  pub before : List ℕ
  pub letter : ℕ
  pub white : List ℕ
  pub ends : text ≡ before ++ letter ∷ white
  pub is_letter : IsTrue (is_letter letter)
  pub is_white : IsTrue (list_all is_white white)

-- a byte that comes in place of an identifier's first value
abbrev pub IsNoValue : List ℕ → ℕ → ℕ → ℕ → Type 0
IsNoValue bytes from at bad = TurnsBad bytes from at bad × EndsWithIdentifier (slice_range bytes at bad)

-- any other byte that turns a good front into one that is not good
abbrev pub IsBadByte : List ℕ → ℕ → ℕ → ℕ → Type 0
IsBadByte bytes from at bad = TurnsBad bytes from at bad × (EndsWithIdentifier (slice_range bytes at bad) → ⊥)
