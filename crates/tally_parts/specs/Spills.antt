-- What is known of a text that was stored.
use Rattle.std.specs.Prelude.{◌≡◌, ℕ, List, Option, Some, None}

-- it has these bytes, where it is known what it has
abbrev pub HasBytesIfKnown : Option (List ℕ) → List ℕ → Type 0
HasBytesIfKnown None bytes = Unit {0}
HasBytesIfKnown (Some kept) bytes = kept ≡ bytes
