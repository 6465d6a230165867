use Rattle.std.proofs.Common.{rules}
use Rattle.std.proofs.lemmas.Fn.{always_returns_same}
use Rattle.sheet_core.specs.Inner.Orders.{goes_before}
use Rattle.sheet_core.proofs.Ranking.{ranks}
use Rattle.sheet_core.proofs.choosing.sort.Goals as goal

pub returns-clause-sorted : goal.returns-clause-sorted
returns-clause-sorted c =
    c.sort_unstable_by.ensures.sorted (goes_before c.args.order) (ranks c.args.order) (always_returns_same _ _ _ (λ a r f h. search rules))
