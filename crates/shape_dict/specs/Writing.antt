-- What is known of bytes to which a text is appended.
use Rattle.std.specs.Prelude.{◌≡◌, ℕ, List, ◌++◌}

-- the new bytes begin with the old ones
abbrev pub Begins : List ℕ → List ℕ → Type 0
Begins old new = (more : List ℕ) × (new ≡ old ++ more)
