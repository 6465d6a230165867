use Rattle.std.proofs.Common.{rules, ◌<◌, ℕ, List, length, take, subst}
use Rattle.std.specs.Io.KnownBytes.{Appends}
use Rattle.engine_core.proofs.Parted.{part_failed, part_refused}
use Rattle.engine_core.proofs.output.write_parts.Goals as goal

pub returns-in_default-clause-front : goal.returns-in_default-clause-front
returns-in_default-clause-front g c =
    part_refused (g.W.Write.contents c.args.writer.now) (g.W.Write.contents c.loop-part.writer) c.args.parts.now c.loop-part.part-index c.part-item.result c.loop-part.before
    c.loop-part-test.true c.part-item.is c.loop-part.invariant.count c.loop-part.invariant.out (search rules)

pub returns-in-Err-clause-front : goal.returns-in-Err-clause-front
returns-in-Err-clause-front g c =
    part_failed (g.W.Write.contents c.args.writer.now) (g.W.Write.contents c.loop-part.writer) (g.W.Write.contents c.write_bytes.new.writer) c.args.parts.now c.loop-part.part-index c.part-item.result
    c.loop-part.before c.in-Err.count c.loop-part-test.true c.part-item.is c.loop-part.invariant.count c.loop-part.invariant.out
    (subst (λ (bytes : List ℕ). c.in-Err.count < length bytes) c.deref.ensures.value c.in-Err.ensures.short)
    (subst (λ (bytes : List ℕ). Appends (g.W.Write.contents c.loop-part.writer) (g.W.Write.contents c.write_bytes.new.writer) (take c.in-Err.count bytes)) c.deref.ensures.value c.in-Err.ensures.front)
