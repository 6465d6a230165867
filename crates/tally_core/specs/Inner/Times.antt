-- How often patterns are in lists.
use Rattle.std.specs.Prelude.{ℕ, ◌≤◌, ◌==◌, List, count_by, if◌then◌else◌}

-- one pattern n times, and no other
abbrev pub one_pattern : ℕ → ℕ → ℕ → ℕ
one_pattern only times shape = if only == shape then times else 0

-- how often each pattern is in a list
abbrev pub times_in : List ℕ → ℕ → ℕ
times_in shapes shape = count_by (λ c. c == shape) shapes

-- each of the first is among the second, as often
abbrev pub AreAmong : List ℕ → List ℕ → Type 0
AreAmong played there = (shape : ℕ) → count_by (λ c. c == shape) played ≤ count_by (λ c. c == shape) there
