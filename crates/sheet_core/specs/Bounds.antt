-- The lower bound of a ratio of plays: that of Wilson's interval for a chance of 95 %, in whole numbers.
use Rattle.std.specs.Prelude.{ℕ, zero, suc, ◌+◌, ◌-◌, ◌*◌, ◌/◌, ◌^◌, nat_le, nat_lt, ◌&&◌, Bool, if◌then◌else◌}
use Rattle.shape_dict.specs.declared.entries.Entry.{Entry}
use Rattle.sheet_core.specs.Occasions.{occasions_of}

-- a bound is a number of 2^20 equal parts of 1
abbrev pub parts : ℕ
parts = 2 ^ 20

-- how far the plays are above those of a ratio of `bound` parts, in parts
abbrev pub excess_of : ℕ → ℕ → ℕ → ℕ
excess_of times plays bound = plays * parts - times * bound

-- whether the square of an excess is great enough
abbrev pub is_enough : ℕ → ℕ → ℕ → Bool
is_enough times bound excess = nat_le (2401 * (times * (bound * (parts - bound)))) (625 * (excess * excess))

-- Whether the interval begins at `bound` parts or later, less than 1. Of n times that a pattern was there it was played k times,
-- and p is the ratio of these parts: p is at most k / n, and (k - n p)^2 is at least z^2 n p (1 - p), where z is 1.96 and so
-- its square 2401 / 625.
unfoldable pub is_reached : ℕ → ℕ → ℕ → Bool
is_reached times plays bound =
    nat_lt bound parts && nat_le (times * bound) (plays * parts)
    && is_enough times bound (excess_of times plays bound)

-- `step` parts more, where the interval begins there or later
abbrev pub stepped : ℕ → ℕ → ℕ → ℕ → ℕ
stepped times plays step bound = if is_reached times plays (bound + step) then bound + step else bound

-- the greatest such number, found in this number of steps, each of which is half of the one before
unfoldable pub bound_from : ℕ → ℕ → ℕ → ℕ → ℕ → ℕ
bound_from zero times plays step bound = bound
bound_from (suc steps) times plays step bound = bound_from steps times plays (step / 2) (stepped times plays step bound)

-- the lower bound, rounded down to parts
unfoldable pub bound_of : Entry → ℕ
bound_of entry = bound_from 20 (occasions_of entry) entry.played (2 ^ 19) 0
