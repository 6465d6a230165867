use Rattle.std.proofs.Common.{take}
use Rattle.hits_core.specs.Inner.Finding.{GrowsBy}
use Rattle.hits_core.proofs.parts.push_all.Given as goal

abbrev pub invariant-loop-hit : goal.invariant-loop-hit
invariant-loop-hit l = GrowsBy l.fn.found l.found (take l.hit-index l.hits)
