use Rattle.std.proofs.Common.{arith, Contains, sym}
use Rattle.table_shares.proofs.Common.{Held}
use Rattle.gather_core.proofs.NumberedGames.{Contains-flat_map}
use Rattle.table_shares.proofs.confirming.any_there.Goals as goal

pub returns-then-has_there : goal.returns-then-has_there
returns-then-has_there c =
    let shares = c.args.shares.now in
    let share = c.share-item.result in
    let among : Contains shares share = (c.loop-share.share-index, omega arith, sym c.share-item.is) in
    let has = c.if-has_there.ensures in
    (has.0, Contains-flat_map (λ (s : Held). s.rows) shares share has.0 among has.1, has.2)
