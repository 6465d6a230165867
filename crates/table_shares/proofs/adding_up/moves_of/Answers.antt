use Rattle.std.proofs.Common.{◌<◌, length, ap, subst, arith}
use Rattle.table_shares.proofs.Common.{sum_by_more, All-more, Held, IsShare}
use Rattle.table_shares.proofs.adding_up.moves_of.Goals as goal

pub loop-share-preserved : goal.loop-share-preserved
loop-share-preserved c =
    let shares = c.args.shares.now in
    let i = c.loop-share.share-index in
    let share = c.share-item.result in
    let inside : i < length shares = c.loop-share-test.true in
    record {
      sum =
          let step = sum_by_more (λ (s : Held). s.moves) shares i share inside in
          let same = ap (λ (s : Held). s.moves) c.share-item.is in
          omega arith;
      shares = All-more IsShare shares i share inside c.loop-share.invariant.shares (subst IsShare c.share-item.is c.games.ensures.share);
    }
