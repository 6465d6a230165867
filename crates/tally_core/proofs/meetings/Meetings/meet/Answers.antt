use Rattle.std.proofs.Common.{subst}
use Rattle.tally_core.specs.Walk.{shapes_of}
use Rattle.tally_core.specs.Inner.Place.{IsPlaceOf}
use Rattle.tally_core.proofs.Once.{meets_met}
use Rattle.tally_core.proofs.meetings.Meetings.meet.Goals as goal

pub returns-in-Some-Met-clause-meets : goal.returns-in-Some-Met-clause-meets
returns-in-Some-Met-clause-meets c =
    let shapes = shapes_of c.args.self.now in
    meets_met shapes c.args.shape c.in-Some-Met.at (subst (IsPlaceOf shapes c.args.shape) c.in-Some-Met.field-0-is c.in-Some-Met.ensures).0
