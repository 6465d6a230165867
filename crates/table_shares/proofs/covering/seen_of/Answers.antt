use Rattle.std.proofs.Common.{take, ◌∙◌}
use Rattle.table_shares.proofs.Common.{Held, all_games}
use Rattle.table_shares.proofs.Strangers.{flat_map_next}
use Rattle.table_shares.proofs.covering.seen_of.Goals as goal

pub loop-share-preserved : goal.loop-share-preserved
loop-share-preserved c =
    let i = c.loop-share.share-index in
    let shares = c.args.shares.now in
    record {
      long = c.note_all.ensures.long ∙ c.loop-share.invariant.long;
      noted = rw (flat_map_next (λ (s : Held). s.games) shares i c.share-item.result c.loop-share-test.true c.share-item.is, ← c.games.ensures.games)
          (c.note_all.ensures.noted (all_games (take i shares)) c.loop-share.invariant.noted);
    }
