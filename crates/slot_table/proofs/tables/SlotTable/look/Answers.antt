use Rattle.std.proofs.Common.{◌^◌, ◌<◌, ◌∙◌, refl, ap, sym, subst, rules}
use Rattle.probe_core.specs.declared.calls.Call.TheVariants as call
use Rattle.probe_core.specs.Machine.{follows}
use Rattle.slot_table.specs.Passes.{IsLater}
use Rattle.slot_table.specs.Telling.{IsSearch, Stepped, entries_of}
use Rattle.slot_table.specs.Inner.Batches.{loads_at, followed, IsLooked}
use Rattle.slot_table.proofs.Batching.{look_tells, search_at, same_slots}
use Rattle.slot_table.proofs.Later.{pass_later, known_of}
use Rattle.slot_table.proofs.tables.SlotTable.look.Goals as goal

pub returns-clause-later : goal.returns-clause-later
returns-clause-later g c =
    let seat = c.pass.inside.seat
    in let after = c.look-word.new.seat
    in let mine = c.args.self.now.order
    in let order = c.self.invariant.0 ∙ ap (λ t. t.order) c.self.view_is
    in let key = c.args.key
    in let place = g.O.ProbeOrder.place_of mine
    in let stepped = subst (λ o. Stepped (2 ^ g.O.ProbeOrder.exponent o) (loads_at key c.args.index) (g.O.ProbeOrder.place_of o key c.args.index) c.look-word.result seat.me.0 after.me.0) order c.look-word.ensures.stepped
    in let n = 2 ^ g.O.ProbeOrder.exponent mine
    in let same = same_slots g.O.ProbeOrder.exponent c.self.inside.order mine c.args.self.now.slots (ap (λ t. t.order) c.self.view_is) (ap (λ t. t.slots) c.self.view_is)
    in subst (λ k. IsLater k c.args.pass.now (entries_of (call.Enter key) (followed k place key (record { index = c.args.index; word = c.look-word.result }))) (known_of after.table_id after.me.0)) same
    (pass_later n n seat.table_id after.table_id seat.me.0 after.me.0
    c.args.pass.now stepped.longest (entries_of (call.Enter key) (follows n (loads_at key c.args.index) (place key c.args.index) c.look-word.result))
    refl c.pass.view_is c.requires.pass.rises stepped.grown)

pub returns-clause-looked : goal.returns-clause-looked
returns-clause-looked g c =
    let seat = c.pass.inside.seat
    in let after = c.look-word.new.seat
    in let mine = c.args.self.now.order
    in let order = c.self.invariant.0 ∙ ap (λ t. t.order) c.self.view_is
    in let key = c.args.key
    in let place = g.O.ProbeOrder.place_of
    in let n = 2 ^ g.O.ProbeOrder.exponent mine
    in let same = same_slots g.O.ProbeOrder.exponent c.self.inside.order mine c.args.self.now.slots (ap (λ t. t.order) c.self.view_is) (ap (λ t. t.slots) c.self.view_is)
    in let stepped = subst (λ o. Stepped (2 ^ g.O.ProbeOrder.exponent o) (loads_at key c.args.index) (place o key c.args.index) c.look-word.result seat.me.0 after.me.0) order c.look-word.ensures.stepped
    in let small : c.args.key < 2 ^ 51 = search rules
    in let asked = subst (λ (h : _). IsSearch n (place mine) (loads_at key c.args.index) h) (ap (λ p. p.seen) (sym c.pass.view_is))
    (subst (λ k. IsSearch k (place mine) (loads_at key c.args.index) c.args.pass.now.seen) (sym same)
    (search_at c.args.self.now.slots (place mine) key c.args.index c.args.pass.now.seen c.requires.index small c.requires.passed))
    in subst (λ k. IsLooked k (place mine) after.me.0.seen key (record { index = c.args.index; word = c.look-word.result })) same
    (look_tells n (place mine) key c.args.index c.look-word.result seat.me.0 after.me.0 (g.met.O.ProbeOrder.is_order mine key) asked stepped)

pub look-word-requires-clause-search : goal.look-word-requires-clause-search
look-word-requires-clause-search g c =
    let mine = c.args.self.now.order
    in let order = c.self.invariant.0 ∙ ap (λ t. t.order) c.self.view_is
    in let key = c.args.key
    in let place = g.O.ProbeOrder.place_of
    in let small : c.args.key < 2 ^ 51 = search rules
    in let same = same_slots g.O.ProbeOrder.exponent c.self.inside.order mine c.args.self.now.slots (ap (λ t. t.order) c.self.view_is) (ap (λ t. t.slots) c.self.view_is)
    in subst (λ o. IsSearch (2 ^ g.O.ProbeOrder.exponent o) (place o) (loads_at key c.args.index) c.pass.inside.seat.me.0.seen) (sym order)
    (subst (λ (h : _). IsSearch (2 ^ g.O.ProbeOrder.exponent mine) (place mine) (loads_at key c.args.index) h) (ap (λ p. p.seen) (sym c.pass.view_is))
    (subst (λ k. IsSearch k (place mine) (loads_at key c.args.index) c.args.pass.now.seen) (sym same)
    (search_at c.args.self.now.slots (place mine) key c.args.index c.args.pass.now.seen c.requires.index small c.requires.passed)))
