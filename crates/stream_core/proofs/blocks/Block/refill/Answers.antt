use Rattle.std.proofs.Common.{◌-◌, ◌+◌, take, drop, refl, arith}
use Rattle.std.proofs.lemmas.Bool.Decides.{nat_tests}
use Rattle.stream_core.specs.Inner.Blocks.{bytes_of}
use Rattle.stream_core.proofs.Held.{moved_up, same_bytes, read_more}
use Rattle.stream_core.proofs.blocks.Block.refill.Goals as goal

pub loop-self-init : goal.loop-self-init
loop-self-init g c =
    let was = c.self.invariant in
    let bytes = c.self.inside.bytes.items in
    let moved = moved_up bytes c.copy_within.new.self.items c.self.inside.start c.self.inside.end c.copy_within.ensures.items was.order (omega arith) in
    record {
      front = refl;
      block = record {
        size = omega (arith, was.size, c.copy_within.ensures.len, c.copy_within.new.self.ok, c.self.inside.bytes.ok);
        order = omega arith;
        within = omega arith;
        last = was.last;
      };
      same = same_bytes c.args.self.now (take (c.self.inside.end - c.self.inside.start) c.copy_within.new.self.items) (drop c.self.inside.start (take c.self.inside.end bytes)) (g.R.Read.remaining c.self.inside.reader) c.self.view_is moved;
    }

pub loop-self-preserved : goal.loop-self-preserved
loop-self-preserved g c =
    let was = c.loop-self.invariant in
    let read = c.in_ok-count.ensures in
    let taken = read.taken in
    record {
      front = was.front;
      block = record {
        size = omega (arith, read.size, was.block.size);
        order = omega (arith, was.front);
        within = omega (arith, read.within, was.block.size);
        last = λ e. read.end (grind (arith, nat_tests));
      };
      same = read_more (bytes_of c.args.self.now) (g.R.Read.remaining c.loop-self.self-inside.reader) (g.R.Read.remaining c.read_behind.new.reader) (take c.loop-self.self-inside.end c.loop-self.self-inside.bytes.items) taken.0 (take (c.loop-self.self-inside.end + c.in_ok-count.count) c.read_behind.new.bytes.items) was.same taken.1 taken.2;
    }
