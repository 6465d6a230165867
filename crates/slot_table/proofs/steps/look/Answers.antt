use Rattle.std.proofs.Common.{◌≡◌, ℕ, ◌^◌, ◌∙◌, ap, sym, subst, arith}
use Rattle.probe_core.specs.declared.calls.Want.TheVariants as want
use Rattle.probe_core.specs.Machine.{Machine, next_step, place_in}
use Rattle.slot_table.specs.Telling.{IsSearch}
use Rattle.slot_table.proofs.Stepping.{wanted_load}
use Rattle.slot_table.proofs.steps.look.Goals as goal

-- the place that was computed is the one of the table's order
same_place : {O : Type 0} (place : O → ℕ → ℕ → ℕ) (order of : O) (key index at : ℕ) → at ≡ place order key index → order ≡ of → place of key index ≡ at
same_place place order of key index at is same = sym (is ∙ ap (λ o. place o key index) same)

pub load-requires : goal.load-requires
load-requires g c =
    let place = g.O.ProbeOrder.place_of
    in let key = c.args.shared.now.key
    in let machine = g.A.Ask.machine
    in let q = c.place.result
    in let at = same_place place c.args.order.now key c.args.key c.args.index q c.place.ensures c.requires.order
    in let wants = subst (λ (m : Machine). next_step m (place_in (place key) m) ≡ want.Load q) (sym c.requires.machine) (ap want.Load at)
    in let search = subst (λ (m : Machine). IsSearch (2 ^ g.O.ProbeOrder.exponent key) (place key) m c.args.seat.now.me.0.seen) (sym c.requires.machine) c.requires.search
    in let w = wanted_load g.O.ProbeOrder.exponent (place key) key c.args.shared.now.table_id.slots c.args.seat.now.id c.args.seat.now.me c.requires.seat.order
    machine q wants (g.met.O.ProbeOrder.is_order key _) search
    in (c.requires.seat.table, omega (arith, w.0, c.requires.seat.words), w.1)
