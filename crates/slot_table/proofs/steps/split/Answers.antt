use Rattle.std.proofs.Common.{◌^◌, arith}
use Rattle.std.proofs.Math.Pow.{pow_pos}
use Rattle.slot_table.proofs.Parting.{split_allowed}
use Rattle.slot_table.proofs.steps.split.Goals as goal

pub split_seat-requires : goal.split_seat-requires
split_seat-requires g c =
    let key = c.args.shared.now.key
    in (
      c.requires.table,
      omega (arith, c.requires.words, pow_pos (g.O.ProbeOrder.exponent key)),
      split_allowed (2 ^ g.O.ProbeOrder.exponent key) (g.O.ProbeOrder.place_of key) key c.args.seat.now.id c.args.seat.now.me.0 c.requires.order,
    )
