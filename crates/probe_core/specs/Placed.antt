-- A world with the order that its calls probe in.
use Rattle.probe_core.specs.World.{World}

-- the order and the world
pub record Placed (O : Type 0) : Type 0 where
  pub order : O
  pub world : World
