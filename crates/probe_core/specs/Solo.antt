-- A table of one user: its order, and for each number its key.
use Rattle.probe_core.specs.Sequential.{Table}

-- the order and the sequential table
pub record Solo (O : Type 0) : Type 0 where
  pub order : O
  pub table : Table
