use Rattle.std.proofs.Common.{◌≡◌, length, take}
use Rattle.std.specs.Io.KnownBytes.{Appends}
use Rattle.shape_dict.specs.Parts.{joined}
use Rattle.engine_core.proofs.output.write_parts.Given as goal

abbrev pub invariant-loop-part : goal.invariant-loop-part
invariant-loop-part g l = record {
  count : l.before ≡ length (joined (take l.part-index l.parts));
  out : Appends (g.W.Write.contents l.fn.writer) (g.W.Write.contents l.writer) (joined (take l.part-index l.parts));
}
