-- A text in parts.
use Rattle.std.specs.Prelude.{ℕ, List, Vec}
use Rattle.std.specs.List.{flat_map}
use Rattle.std.specs.Global.{Global}

-- the bytes of the parts, one part after another
abbrev pub joined : List (Vec ℕ Global) → List ℕ
joined parts = flat_map (λ part. part.items) parts
