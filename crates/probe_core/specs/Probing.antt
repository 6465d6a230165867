-- A probe: a machine with the order that it probes in.
use Rattle.probe_core.specs.Machine.{Machine}

-- the order and the machine
pub record Probing (O : Type 0) : Type 0 where
  pub order : O
  pub machine : Machine
