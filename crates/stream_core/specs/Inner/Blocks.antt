-- What a block holds of a reader's bytes, and what its fields keep to.
use Rattle.std.specs.Prelude.{◌≡◌, ℕ, ◌≤◌, ◌^◌, ◌⊎◌, Bool, true, List, length, Option}
use Rattle.std.specs.Io.KnownBytes.{prepend_known, IsAtEnd}

-- the bytes that were read and not yet given, and those that the reader still has, where they are known
pub record Held : Type 0 where
  pub unread : List ℕ
  pub remaining : Option (List ℕ)

abbrev pub bytes_of : Held → Option (List ℕ)
bytes_of held = prepend_known held.unread held.remaining

-- the unread bytes lie within the block, and a reader that has ended has no more
pub record IsBlock (bytes : List ℕ) (start end : ℕ) (ended : Bool) (remaining : Option (List ℕ)) : Type 0 where
  pub size : length bytes ≡ 2 ^ 16
  pub order : start ≤ end
  pub within : end ≤ 2 ^ 16
  pub last : ended ≡ true → IsAtEnd remaining

-- there are as many unread bytes as the longest line or header has, or all that there are
abbrev pub HasEnough : Held → Type 0
HasEnough held = (2 ^ 7 ≤ length held.unread) ⊎ IsAtEnd held.remaining
