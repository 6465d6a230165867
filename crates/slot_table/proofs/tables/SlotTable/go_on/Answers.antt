use Rattle.std.proofs.Common.{◌^◌, ◌∙◌, ◌∷◌, [], ap, sym, subst}
use Rattle.probe_core.specs.declared.calls.Answer.TheVariants as answer
use Rattle.slot_table.specs.declared.entries.Happened.TheVariants as entry
use Rattle.slot_table.specs.Passes.{IsLater}
use Rattle.slot_table.specs.Inner.Batches.{loads_at, followed, rest_of, HasFollowed}
use Rattle.slot_table.proofs.Batching.{told_runs, rest_is, same_slots}
use Rattle.slot_table.proofs.Later.{later_self, pass_later, known_of}
use Rattle.slot_table.proofs.tables.SlotTable.go_on.Goals as goal

pub returns-in-On-clause-later : goal.returns-in-On-clause-later
returns-in-On-clause-later g c =
    let mine = c.args.self.now.order
    in let place = g.O.ProbeOrder.place_of
    in let key = c.args.key
    in let look = c.args.look
    in let pass = c.args.pass.now
    in let same = same_slots g.O.ProbeOrder.exponent c.self.inside.order mine c.args.self.now.slots (ap (λ t. t.order) c.self.view_is) (ap (λ t. t.slots) c.self.view_is)
    in let runs = told_runs g.O.ProbeOrder.exponent place c.at-probe.result c.in-On.field-0 c.self.inside.order mine (loads_at key look.index) look.word
    c.at-probe.ensures.order (ap (λ t. t.order) c.self.view_is) c.at-probe.ensures.machine c.in-On.ensures.turn
    in subst (λ k. IsLater k pass (rest_of key (followed k (place mine) key look) answer.Absent) pass) same
    (subst (λ f. IsLater (2 ^ g.O.ProbeOrder.exponent mine) pass (rest_of key f answer.Absent) pass) (sym runs) (later_self (2 ^ g.O.ProbeOrder.exponent mine) pass))

pub returns-in-On-2-clause-later : goal.returns-in-On-2-clause-later
returns-in-On-2-clause-later g c =
    let seat = c.pass.inside.seat
    in let after = c.run.new.seat
    in let mine = c.args.self.now.order
    in let n = 2 ^ g.O.ProbeOrder.exponent mine
    in let place = g.O.ProbeOrder.place_of
    in let key = c.args.key
    in let look = c.args.look
    in let answer = c.run.result
    in let next = c.in-On.field-0
    in let called = c.run.ensures.called
    in let same = same_slots g.O.ProbeOrder.exponent c.self.inside.order mine c.args.self.now.slots (ap (λ t. t.order) c.self.view_is) (ap (λ t. t.slots) c.self.view_is)
    in let known = subst (λ k. HasFollowed k (place mine) c.args.pass.now.seen key (followed k (place mine) key look)) (sym same) c.requires.looked.next
    in let runs = told_runs g.O.ProbeOrder.exponent place c.at-probe.result next c.self.inside.order mine (loads_at key look.index) look.word
    c.at-probe.ensures.order (ap (λ t. t.order) c.self.view_is) c.at-probe.ensures.machine c.in-On.ensures.turn
    in let later = pass_later (2 ^ g.O.ProbeOrder.exponent c.self.inside.words.shared.key) n seat.table_id after.table_id seat.me.0 after.me.0
    c.args.pass.now called.0 (entry.Asked next.machine.call answer ∷ []) (ap (λ o. 2 ^ g.O.ProbeOrder.exponent o) (c.self.invariant.0 ∙ ap (λ t. t.order) c.self.view_is))
    c.pass.view_is c.requires.pass.rises called.1
    in subst (λ k. IsLater k c.args.pass.now (rest_of key (followed k (place mine) key look) answer) (known_of after.table_id after.me.0)) same
    (subst (λ made. IsLater n c.args.pass.now made (known_of after.table_id after.me.0))
    (rest_is n (2 ^ g.O.ProbeOrder.exponent c.self.inside.words.shared.key) (place mine) c.args.pass.now.seen after.me.0.seen key (followed n (place mine) key look) next.machine answer runs
    known c.run.ensures.told) later)
