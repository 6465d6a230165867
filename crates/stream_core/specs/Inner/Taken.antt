-- What a read adds after the bytes at hand.
use Rattle.std.specs.Prelude.{◌≡◌, ℕ, List, ◌++◌, Option}
use Rattle.std.specs.Io.KnownBytes.{Consumes}

-- the bytes before grew by some that the reader lost
abbrev pub Taken : Option (List ℕ) → Option (List ℕ) → List ℕ → List ℕ → Type 0
Taken old new before after = (more : List ℕ) × Consumes old new more × (after ≡ before ++ more)
