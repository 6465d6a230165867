use Rattle.std.proofs.Common.{◌^◌, ◌∙◌, ◌∷◌, [], sym, subst}
use Rattle.probe_core.specs.Machine.{follows, place_in}
use Rattle.slot_table.specs.declared.entries.Happened.TheVariants as entry
use Rattle.slot_table.specs.Telling.{Called}
use Rattle.slot_table.proofs.Searching.{turn_on, turn_done, went_on, went_through, search_goes_on, ended, grown_through, called_tells}
use Rattle.slot_table.proofs.steps.run.Goals as goal

pub loop-next-preserved : goal.loop-next-preserved
loop-next-preserved g c =
    let key = c.args.shared.now.key
    in let n = 2 ^ g.O.ProbeOrder.exponent key
    in let place = g.O.ProbeOrder.place_of key
    in let machine = c.loop-next.probe.machine
    in let told = c.in-On.ensures.turned
    in let on = turn_on key (follows n machine (place_in place machine) told.found) c.in-On.next (sym told.next)
    in let went = went_on n place machine told.found c.loop-next.seat.me.0 c.turn.new.seat.me.0 told.stepped c.in-On.next.machine on.0
    in let search = search_goes_on n place machine told.found c.loop-next.seat.me.0 c.turn.new.seat.me.0 told.stepped c.in-On.next.machine on.0
    (g.met.O.ProbeOrder.is_order key _) c.loop-next.invariant.search
    in record {
      seat = c.in-On.ensures.seat;
      order = on.1;
      call = search.1 ∙ c.loop-next.invariant.call;
      search = search.0;
      went = went_through c.args.seat.now.me.0 c.loop-next.seat.me.0 c.turn.new.seat.me.0 c.loop-next.invariant.went went;
    }

pub returns-in-Done : goal.returns-in-Done
returns-in-Done g c =
    let key = c.args.shared.now.key
    in let n = 2 ^ g.O.ProbeOrder.exponent key
    in let place = g.O.ProbeOrder.place_of key
    in let machine = c.loop-next.probe.machine
    in let answer = c.in-Done.answer
    in let first = c.args.seat.now.me.0
    in let new = c.turn.new.seat.me.0
    in let told = c.in-Done.ensures.turned
    in let last = ended n place machine told.found c.loop-next.seat.me.0 new told.stepped answer
    (turn_done key (follows n machine (place_in place machine) told.found) answer (sym told.next))
    in let whole = grown_through n first c.loop-next.seat.me.0 new told.stepped.longest (entry.Asked machine.call answer ∷ [])
    c.requires.seat.met (c.requires.seat.order ∙ sym c.loop-next.invariant.seat.order) c.loop-next.invariant.went last
    in let called = subst (λ asked. Called n first (entry.Asked asked answer) new) c.loop-next.invariant.call (told.stepped.longest, whole)
    in record { seat = c.in-Done.ensures.seat; called = called; told = called_tells n first new c.args.probe.machine.call answer called }
