-- The exit status of a run over several inputs.
use Rattle.std.specs.Prelude.{ℕ, ◌==◌, if◌then◌else◌}

-- the first fault's status stands
abbrev pub first_status : ℕ → ℕ → ℕ
first_status before status = if before == 0 then status else before
