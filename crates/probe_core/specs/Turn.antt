-- What follows a step of a probe, and how many steps are left then.
use Rattle.std.specs.Prelude.{ℕ, ◌<◌, ⊤}
use Rattle.probe_core.specs.declared.probes.Turn.{Turn}
use Rattle.probe_core.specs.declared.probes.Turn.TheVariants as turn
use Rattle.probe_core.specs.Machine.{Followed, Runs, Answers, left_of}

-- a probe of this order with the machine that runs on, or the answer
abbrev pub turn_of : {O : Type 0} → O → Followed → Turn O
turn_of order (Runs machine) = turn.On (record { order = order; machine = machine })
turn_of order (Answers answer) = turn.Done answer

-- a probe that goes on has at most `steps` - 1 steps left, with n places
abbrev pub HasFewer : {O : Type 0} → ℕ → ℕ → Turn O → Type 0
HasFewer n steps (turn.On probe) = left_of n probe.machine < steps
HasFewer n steps (turn.Done answer) = ⊤
