use Rattle.std.proofs.Common.{arith}
use Rattle.stream_core.proofs.blocks.new_block.Goals as goal

pub invariant_of-result : goal.invariant_of-result
invariant_of-result g c = record {
  size = omega (arith, c.in_ok-bytes.ensures.len, c.in_ok-bytes.bytes.ok);
  order = omega arith;
  within = omega arith;
  last = λ e. cc;
}
