use Rattle.std.proofs.Common.{◌≡◌, refl, ap, Some, slice_get, ◌∙◌, sym}
use Rattle.std.proofs.lemmas.Bool.{iff_false}
use Rattle.probe_core.specs.declared.halls.UnderWay.{UnderWay}
use Rattle.probe_core.specs.Inner.Hall.{world_of}
use Rattle.probe_core.proofs.Callers.{began_shows, not_began, not_idle, ordered_after}
use Rattle.probe_core.proofs.halls.Hall.begin.Goals as goal

pub returns-then-is_idle-clause-world : goal.returns-then-is_idle-clause-world
returns-then-is_idle-clause-world g c =
    began_shows (world_of c.args.self.now) c.args.self.now.callers.items c.args.caller c.args.call
    (record { probe = c.begin-probe.result; since = c.args.self.now.events })
    refl (c.is_idle.ensures.0 c.if-is_idle.true) c.begin-probe.ensures.machine refl

pub returns-then-is_idle-clause-fitted : goal.returns-then-is_idle-clause-fitted
returns-then-is_idle-clause-fitted g c =
    let new : UnderWay g.row.O.Denot = record { probe = c.begin-probe.result; since = c.args.self.now.events }
    in record {
      whole = c.requires.whole;
      ordered = ordered_after c.args.self.now.order c.args.self.now.callers.items c.args.caller (Some new) c.requires.ordered
          (λ call e. let same : new ≡ call = cc in ap (λ u. u.probe.order) (sym same) ∙ c.begin-probe.ensures.order);
    }

pub returns-else-is_idle-clause-world : goal.returns-else-is_idle-clause-world
returns-else-is_idle-clause-world g c =
    not_began (world_of c.args.self.now) c.args.caller c.args.call (slice_get (world_of c.args.self.now).callers c.args.caller)
    (not_idle c.args.self.now.callers.items c.args.caller (iff_false c.is_idle.ensures c.if-is_idle.false))
