use Rattle.table_shares.proofs.Common.{IfOk-weaker, all_games}
use Rattle.table_shares.proofs.covering.check_games.Goals as goal

pub returns-clause-ok : goal.returns-clause-ok
returns-clause-ok c = IfOk-weaker c.judge.result _ _ (λ _ ok. ok (all_games c.args.shares.now) c.in_ok-seen.ensures.noted) c.judge.ensures.ok
