use Rattle.std.proofs.Common.{◌^◌}
use Rattle.probe_core.specs.Machine.{key_of}
use Rattle.probe_core.proofs.Telling.{step_tells, step_keeps_order, step_keeps_way}
use Rattle.probe_core.proofs.laws.steps_tell_of_the_key.Goals as goal

pub returns-clause-tells : goal.returns-clause-tells
returns-clause-tells g c = λ words machine orderly way.
    step_tells (2 ^ g.O.ProbeOrder.exponent c.args._order.now) (g.O.ProbeOrder.place_of c.args._order.now) words machine
    (g.met.O.ProbeOrder.is_order c.args._order.now (key_of machine.call)) orderly way

pub returns-clause-orderly : goal.returns-clause-orderly
returns-clause-orderly g c = λ words machine orderly way.
    step_keeps_order (2 ^ g.O.ProbeOrder.exponent c.args._order.now) (g.O.ProbeOrder.place_of c.args._order.now) words machine
    (g.met.O.ProbeOrder.is_order c.args._order.now (key_of machine.call)) orderly way

pub returns-clause-others : goal.returns-clause-others
returns-clause-others g c = λ words machine other way.
    step_keeps_way (2 ^ g.O.ProbeOrder.exponent c.args._order.now) (g.O.ProbeOrder.place_of c.args._order.now) words machine other way
