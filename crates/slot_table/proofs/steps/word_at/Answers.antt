use Rattle.std.proofs.Common.{arith}
use Rattle.slot_table.proofs.Stepping.{look_allowed}
use Rattle.slot_table.proofs.steps.word_at.Goals as goal

pub load-found-requires : goal.load-found-requires
load-found-requires g c =
    let key = c.args.shared.now.key
    in (
      c.requires.seat.table,
      omega (arith, c.requires.number, c.requires.seat.words),
      look_allowed g.O.ProbeOrder.exponent (g.O.ProbeOrder.place_of key) key c.args.shared.now.table_id.slots c.args.seat.now.id c.args.seat.now.me c.requires.seat.order
          c.args.number c.requires.number,
    )
