use Rattle.std.proofs.Common.{◌^◌}
use Rattle.probe_core.proofs.Running.{sound_now}
use Rattle.probe_core.proofs.Soundness.{sound_is_lawful}
use Rattle.probe_core.proofs.worlds.World.history.Goals as goal

pub returns-clause-lawful : goal.returns-clause-lawful
returns-clause-lawful g c =
    let now = c.args.self.now
    in sound_is_lawful (2 ^ g.O.ProbeOrder.exponent now.order) (g.O.ProbeOrder.place_of now.order) now.world
    (sound_now g.O.ProbeOrder.exponent g.O.ProbeOrder.place_of c.self.inside.hall now c.self.view_is c.self.invariant.sound)
