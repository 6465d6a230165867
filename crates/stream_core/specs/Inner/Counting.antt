-- How far the number of entries is bounded.
use Rattle.std.specs.Prelude.{◌≡◌, ℕ, ◌+◌, ◌<◌, ◌≤◌, ◌^◌, Option, None, Some}
use Rattle.stream_core.specs.Progress.{small}

-- shapes rise, so there are no more than numbers up to the last one
abbrev pub CountedTo : ℕ → Option ℕ → Type 0
CountedTo given None = given ≡ 0
CountedTo given (Some last) = (given ≤ last + 1) × (last < 2 ^ 51)

-- a sum with one more number, or None where it is over 2 ^ 64 - 1
abbrev pub added : Option ℕ → ℕ → Option ℕ
added None played = None
added (Some sum) played = small (sum + played)
