use Rattle.std.proofs.Common.{refl, length, arith}
use Rattle.std.proofs.lemmas.Option.{slice_get_read}
use Rattle.table_harvest.proofs.Parted.{worst_more, worst_all}
use Rattle.table_harvest.proofs.parting.worst.Goals as goal

pub loop-one-preserved : goal.loop-one-preserved
loop-one-preserved c = worst_more c.args.refusals.now c.loop-one.one-index c.loop-one.found c.one-item.result c.told.result (omega arith)
    (slice_get_read c.args.refusals.now (length c.args.refusals.now) c.loop-one.one-index c.one-item.result refl c.loop-one-test.true c.one-item.is) c.loop-one.invariant c.told.ensures

pub returns : goal.returns
returns c = worst_all c.args.refusals.now c.loop-one.one-index c.loop-one.found (omega arith) c.loop-one.invariant
