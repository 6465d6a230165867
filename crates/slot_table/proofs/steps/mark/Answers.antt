use Rattle.std.proofs.Common.{◌≡◌, ◌+◌, ◌*◌, ◌/◌, ◌^◌, subst, arith}
use Rattle.slot_table.specs.declared.entries.Happened.TheVariants as entry
use Rattle.slot_table.specs.Telling.{Called}
use Rattle.slot_table.proofs.Marking.{mark_allowed, marked_at_most}
use Rattle.slot_table.proofs.steps.mark.Goals as goal

pub fetch_min-requires : goal.fetch_min-requires
fetch_min-requires g c =
    let key = c.args.shared.now.key
    in (
      c.requires.seat.table,
      omega (arith, c.requires.seat.words, c.requires.number),
      mark_allowed g.O.ProbeOrder.exponent (g.O.ProbeOrder.place_of key) key c.args.shared.now.table_id.slots c.args.seat.now.id c.args.seat.now.me c.requires.seat.order
          c.args.number c.requires.number c.args.game (omega (arith, c.requires.game)),
    )

pub returns-clause-least : goal.returns-clause-least
returns-clause-least g c =
    let key = c.args.shared.now.key
    in let n = 2 ^ g.O.ProbeOrder.exponent key
    in let new = c.fetch_min.new.seat.me.0
    in let half : (2 * c.args.number + 1) / 2 ≡ c.args.number = omega arith
    in marked_at_most n c.args.seat.now.me.0 new c.args.number c.args.game
    (subst (λ k. Called n c.args.seat.now.me.0 (entry.Marked k c.args.game) new) half (c.fetch_min.ensures.2.1 key c.requires.seat.order))
