use Rattle.std.proofs.Common.{◌≡◌, take}
use Rattle.std.specs.List.{flat_map}
use Rattle.hits_core.specs.Lines.{line_text}
use Rattle.hits_core.proofs.writing.text_of.Given as goal

abbrev pub invariant-loop-hit : goal.invariant-loop-hit
invariant-loop-hit l = l.text.items ≡ flat_map (line_text l.search) (take l.hit-index l.hits)
