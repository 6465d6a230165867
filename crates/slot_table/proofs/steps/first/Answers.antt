use Rattle.std.proofs.Common.{◌≡◌, ◌+◌, ◌*◌, ◌/◌, ◌^◌, ◌∙◌, sym, subst, arith}
use Rattle.slot_table.specs.declared.entries.Happened.TheVariants as entry
use Rattle.slot_table.specs.Telling.{Called, mark_of}
use Rattle.slot_table.proofs.Marking.{first_allowed, first_is_least, mark_none, mark_some}
use Rattle.slot_table.proofs.steps.first.Goals as goal

pub load-found-requires : goal.load-found-requires
load-found-requires g c =
    let key = c.args.shared.now.key
    in (
      c.requires.seat.table,
      omega (arith, c.requires.seat.words, c.requires.number),
      first_allowed g.O.ProbeOrder.exponent (g.O.ProbeOrder.place_of key) key c.args.shared.now.table_id.slots c.args.seat.now.id c.args.seat.now.me c.requires.seat.order
          c.args.number c.requires.number,
    )

pub returns-then-found-clause-least : goal.returns-then-found-clause-least
returns-then-found-clause-least g c =
    let key = c.args.shared.now.key
    in let n = 2 ^ g.O.ProbeOrder.exponent key
    in let found = c.load-found.result
    in let new = c.load-found.new.seat.me.0
    in let half : (2 * c.args.number + 1) / 2 ≡ c.args.number = omega arith
    in sym (mark_none found c.if-found.true)
    ∙ first_is_least n c.args.seat.now.me.0 new c.args.number (mark_of found)
    (subst (λ k. Called n c.args.seat.now.me.0 (entry.First k (mark_of found)) new) half (c.load-found.ensures.2.1 key c.requires.seat.order))

pub returns-else-found-clause-least : goal.returns-else-found-clause-least
returns-else-found-clause-least g c =
    let key = c.args.shared.now.key
    in let n = 2 ^ g.O.ProbeOrder.exponent key
    in let found = c.load-found.result
    in let new = c.load-found.new.seat.me.0
    in let half : (2 * c.args.number + 1) / 2 ≡ c.args.number = omega arith
    in sym (mark_some found c.if-found.false)
    ∙ first_is_least n c.args.seat.now.me.0 new c.args.number (mark_of found)
    (subst (λ k. Called n c.args.seat.now.me.0 (entry.First k (mark_of found)) new) half (c.load-found.ensures.2.1 key c.requires.seat.order))
