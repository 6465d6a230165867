use Rattle.std.proofs.Common.{◌^◌, ◌∙◌, ap, subst, arith}
use Rattle.std.proofs.Math.Pow.{pow_pos}
use Rattle.slot_table.specs.Rule.{joined}
use Rattle.slot_table.specs.Telling.{Loaded}
use Rattle.slot_table.proofs.Joining.{join_allowed, joined_shows}
use Rattle.slot_table.proofs.Stepping.{look_allowed}
use Rattle.slot_table.proofs.steps.meet.Goals as goal

pub join_seat-requires : goal.join_seat-requires
join_seat-requires g c =
    let key = c.args.shared.now.key
    in (
      c.requires.seat.table,
      c.requires.other.table,
      c.requires.other.held,
      omega (arith, c.requires.seat.words, pow_pos (g.O.ProbeOrder.exponent key)),
      join_allowed (2 ^ g.O.ProbeOrder.exponent key) (g.O.ProbeOrder.place_of key) key c.args.seat.now.id c.args.seat.now.me.0 c.args.other.id c.args.other.me.0 c.requires.seat.order,
    )

pub load-requires : goal.load-requires
load-requires g c =
    let key = c.args.shared.now.key
    in let of = ap (λ me. me.0.order) c.join_seat.ensures.2 ∙ c.requires.seat.order
    in (
      c.join_seat.ensures.0 ∙ c.requires.seat.table,
      omega (arith, c.requires.seat.words, pow_pos (g.O.ProbeOrder.exponent key)),
      look_allowed g.O.ProbeOrder.exponent (g.O.ProbeOrder.place_of key) key c.args.shared.now.table_id.slots c.join_seat.new.seat.id c.join_seat.new.seat.me of
          0 (pow_pos (g.O.ProbeOrder.exponent key)),
    )

pub returns-clause-joined : goal.returns-clause-joined
returns-clause-joined g c =
    let key = c.args.shared.now.key
    in let n = 2 ^ g.O.ProbeOrder.exponent key
    in let both = joined c.args.seat.now.me.0 c.args.other.me.0
    in let of = ap (λ me. me.0.order) c.join_seat.ensures.2 ∙ c.requires.seat.order
    in let loaded = subst (λ view. Loaded n 0 c.load.result view c.load.new.seat.me.0) (ap (λ me. me.0) c.join_seat.ensures.2) (c.load.ensures.2.1 key of)
    in joined_shows n 0 c.load.result c.args.seat.now.me.0 c.args.other.me.0 c.load.new.seat.me.0 loaded
