use Rattle.std.proofs.Common.{◌-◌, ◌+◌, ◌≡◌, take, cond}
use Rattle.std.specs.Io.KnownBytes.{Keeps, prepend_known}
use Rattle.stream_core.specs.Inner.Blocks.{IsBlock, bytes_of}
use Rattle.stream_core.proofs.blocks.Block.refill.Given as goal

abbrev pub invariant-loop-self : goal.invariant-loop-self
invariant-loop-self g l = record {
  front : l.self-inside.start ≡ 0;
  block : IsBlock l.self-inside.bytes.items l.self-inside.start l.self-inside.end l.self-inside.ended (g.R.Read.remaining l.self-inside.reader);
  same : Keeps (bytes_of l.fn.self) (prepend_known (take l.self-inside.end l.self-inside.bytes.items) (g.R.Read.remaining l.self-inside.reader));
}

abbrev pub decreases-loop-self : goal.decreases-loop-self
decreases-loop-self g l = (128 - l.self-inside.end) + cond l.self-inside.ended 0 1
