-- At which places the words of a table hold a key: never after a free place of the key's order.
use Rattle.std.specs.Prelude.{◌≡◌, ◌≢◌, ℕ, ◌<◌, List, length, slice_index_or}
use Rattle.probe_core.specs.Machine.{code_of}

-- the word of another key
pub record IsOther (word key : ℕ) : Type 0 where
  pub taken : word ≢ 0
  pub other : word ≢ code_of key

-- the places of a key's order before an index hold other keys
abbrev pub HoldOthers : (ℕ → ℕ) → List ℕ → ℕ → ℕ → Type 0
HoldOthers place words key i = (j : ℕ) → j < i → IsOther (slice_index_or words (place j) 0) key

-- each key that one of n places holds has all earlier places of its order taken by other keys
abbrev pub IsPlaced : ℕ → (ℕ → ℕ → ℕ) → List ℕ → Type 0
IsPlaced n place words =
    (key i : ℕ) → i < n → slice_index_or words (place key i) 0 ≡ code_of key → HoldOthers (place key) words key i

-- n words, of which no key comes after a free place of its order
pub record IsOrderly (n : ℕ) (place : ℕ → ℕ → ℕ) (words : List ℕ) : Type 0 where
  pub whole : length words ≡ n
  pub placed : IsPlaced n place words

-- words that only grew: a word that is not free has stayed as it was
abbrev pub HaveGrown : List ℕ → List ℕ → Type 0
HaveGrown words later = (p : ℕ) → slice_index_or words p 0 ≢ 0 → slice_index_or later p 0 ≡ slice_index_or words p 0
