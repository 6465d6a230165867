-- What several inputs come to.
use Rattle.std.specs.Prelude.{ℕ, ◌-◌, ◌==◌, Option, Some, None, if◌then◌else◌}

-- the exit status of the first fault, 0 where there is none
abbrev pub first_status : ℕ → ℕ → ℕ
first_status before status = if before == 0 then status else before

-- how many hits are still asked for after this number was listed
abbrev pub left_after : Option ℕ → ℕ → Option ℕ
left_after None listed = None
left_after (Some left) listed = Some (left - listed)
