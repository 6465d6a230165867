use Rattle.std.proofs.Common.{arith, ◌-◌, length, drop, length-take, length-drop}
use Rattle.merge_core.proofs.Written.{written_more}
use Rattle.merge_core.proofs.output.write_bytes.Goals as goal

pub loop-written-preserved : goal.loop-written-preserved
loop-written-preserved g c = record {
  within = omega (arith, c.in-Ok.ensures.bound, length-take (length c.args.bytes.now - c.loop-written.written) (drop c.loop-written.written c.args.bytes.now), length-drop c.loop-written.written c.args.bytes.now);
  out = written_more (g.W.Write.contents c.args.writer.now) (g.W.Write.contents c.loop-written.writer) (g.W.Write.contents c.write.new.self)
      c.args.bytes.now c.loop-written.written c.in-Ok.count c.loop-written.invariant.out c.in-Ok.ensures.bytes;
}
