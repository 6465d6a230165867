use Rattle.std.proofs.Common.{◌^◌, subst, arith}
use Rattle.probe_core.specs.declared.calls.Want.TheVariants as want
use Rattle.slot_table.specs.Telling.{IsSearch}
use Rattle.slot_table.proofs.Stepping.{wanted, wanted_load, wanted_swap}
use Rattle.slot_table.proofs.steps.turn.Goals as goal

pub load-found-requires : goal.load-found-requires
load-found-requires g c =
    let place = g.O.ProbeOrder.place_of
    in let key = c.args.shared.now.key
    in let machine = g.A.Ask.machine
    in let wants = wanted place c.args.probe.order key c.args.probe.machine machine c.wants.result (want.Load c.in-Load.place)
    c.wants.ensures.step c.requires.probe.0 c.requires.probe.1 c.in-Load.is
    in let search = subst (λ m. IsSearch (2 ^ g.O.ProbeOrder.exponent key) (place key) m c.args.seat.now.me.0.seen) c.requires.probe.1 c.requires.search
    in let w = wanted_load g.O.ProbeOrder.exponent (place key) key c.args.shared.now.table_id.slots c.args.seat.now.id c.args.seat.now.me c.requires.seat.order
    machine c.in-Load.place wants (g.met.O.ProbeOrder.is_order key _) search
    in (c.requires.seat.table, omega (arith, w.0, c.requires.seat.words), w.1)

pub compare_exchange-found-requires : goal.compare_exchange-found-requires
compare_exchange-found-requires g c =
    let place = g.O.ProbeOrder.place_of
    in let key = c.args.shared.now.key
    in let machine = g.A.Ask.machine
    in let wants = wanted place c.args.probe.order key c.args.probe.machine machine c.wants.result (want.Swap c.in-Swap.place c.in-Swap.value)
    c.wants.ensures.step c.requires.probe.0 c.requires.probe.1 c.in-Swap.is
    in let search = subst (λ m. IsSearch (2 ^ g.O.ProbeOrder.exponent key) (place key) m c.args.seat.now.me.0.seen) c.requires.probe.1 c.requires.search
    in let w = wanted_swap g.O.ProbeOrder.exponent (place key) key c.args.shared.now.table_id.slots c.args.seat.now.id c.args.seat.now.me c.requires.seat.order
    machine c.in-Swap.place c.in-Swap.value wants (g.met.O.ProbeOrder.is_order key _) search
    in (c.requires.seat.table, omega (arith, w.0, c.requires.seat.words), w.1)
