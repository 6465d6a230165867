use Rattle.std.proofs.Common.{◌+◌, ◌^◌, arith, length-take}
use Rattle.engine_core.proofs.Known.{read_enough, read_last}
use Rattle.engine_core.proofs.input.read_by_block.Goals as goal

pub returns-then-count-eq0-clause-input : goal.returns-then-count-eq0-clause-input
returns-then-count-eq0-clause-input g c =
    read_last (g.R.Read.remaining c.args.reader.now) (g.R.Read.remaining c.loop-input.reader) (g.R.Read.remaining c.read_some.new.reader)
    c.loop-input.input.items c.read_some.new.room c.in_ok-count.count (2 ^ 28 + 1)
    c.loop-input.invariant.taken c.in_ok-count.ensures.taken c.if-count-eq0.true
    (c.in_ok-count.ensures.end c.if-count-eq0.true (omega (arith, length-take c.min-room.result c.loop-input.block))) (omega (arith, c.loop-input.input.ok.0))

pub returns-clause-input : goal.returns-clause-input
returns-clause-input g c =
    read_enough (g.R.Read.remaining c.args.reader.now) (g.R.Read.remaining c.loop-input.reader) c.loop-input.input.items (2 ^ 28 + 1)
    c.loop-input.invariant.taken (omega (arith, c.loop-input.input.ok.0))
