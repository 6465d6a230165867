use Rattle.std.proofs.Common.{◌≡◌, ◌/◌, ◌∙◌, arith, MatchResult}
use Rattle.shape_dict.specs.Contents.{Contents}
use Rattle.merge_core.specs.Entries.{IsNextFault}
use Rattle.merge_core.specs.Inner.Leaves.{HasLeft, HasCome}
use Rattle.merge_core.proofs.Grown.{Gives, one_sum, first_sum, last_sum, halves_sum, pair_sum}
use Rattle.merge_core.proofs.Unmerged.{fault_of_left, fault_of_right}
use Rattle.merge_core.proofs.Summed.{one_summed, pair_summed}
use Rattle.merge_core.proofs.growing.+grow.Goals as goal

pub returns-in-Err-clause-left : goal.returns-in-Err-clause-left
returns-in-Err-clause-left g t c = λ kind all offers is.
    one_sum (g.S.Sources.bytes c.args.sources.now) kind c.args.from all (λ (d : Contents). IsNextFault d.entries c.in-Err.fault) offers (is ∙ c.if-count-eq1.true) c.in-Err.ensures.left

pub returns-in-Err-grow-clause-left : goal.returns-in-Err-grow-clause-left
returns-in-Err-grow-clause-left g t c = λ kind all offers is.
    first_sum (g.S.Sources.bytes c.args.sources.now) kind c.args.from c.args.count (c.args.count / 2) all
    (λ (d : Contents). IsNextFault d.entries c.in-Err-grow.fault) (λ (d : Contents). IsNextFault d.entries c.in-Err-grow.fault) offers is (omega arith)
    (c.in-Err-grow.ensures.left kind) (λ a b x. fault_of_left a.games a.entries b.entries c.in-Err-grow.fault x)

pub returns-in-Err-grow-2-clause-left : goal.returns-in-Err-grow-2-clause-left
returns-in-Err-grow-2-clause-left g t c = λ kind all offers is.
    last_sum (g.S.Sources.bytes c.args.sources.now) kind c.args.from c.args.count (c.args.count / 2) all
    (λ (d : Contents). IsNextFault d.entries c.in-Err-grow-2.fault) (λ (d : Contents). IsNextFault d.entries c.in-Err-grow-2.fault) offers is (omega arith) (omega arith)
    (c.in-Err-grow-2.ensures.left kind) (λ a b x. fault_of_right a.games a.entries b.entries c.in-Err-grow-2.fault x)

pub returns-clause-left : goal.returns-clause-left
returns-clause-left g t c = λ kind all offers is.
    halves_sum (g.S.Sources.bytes c.args.sources.now) kind c.args.from c.args.count (c.args.count / 2) all
    (λ (d : Contents). Gives (λ leaf. HasLeft leaf.lines) d c.in-Ok-grow.left) (λ (d : Contents). Gives (λ leaf. HasLeft leaf.lines) d c.in-Ok-grow-2.right)
    (λ (d : Contents). MatchResult c.pair.result (Gives (λ leaf. HasLeft leaf.lines) d) (IsNextFault d.entries)) offers is (omega arith)
    (c.in-Ok-grow.ensures.left kind) (c.in-Ok-grow-2.ensures.left kind)
    (λ a b x y. pair_sum (λ leaf. HasLeft leaf.lines) c.pair.result c.in-Ok-grow.left c.in-Ok-grow-2.right a b c.pair.ensures.next c.pair.ensures.totals x y)

pub returns-in-Ok-clause-left : goal.returns-in-Ok-clause-left
returns-in-Ok-clause-left g t c = λ kind all offers is.
    one_sum (g.S.Sources.bytes c.args.sources.now) kind c.args.from all (λ (d : Contents). (c.in-Ok.totals.games ≡ d.games) × HasLeft c.in-Ok.leaf.lines d.entries) offers (is ∙ c.if-count-eq1.true) c.in-Ok.ensures.left

pub returns-clause-came : goal.returns-clause-came
returns-clause-came g t c =
    pair_summed (λ leaf. HasCome leaf.lines) (g.S.Sources.bytes c.args.sources.now) c.args.from c.args.count (c.args.count / 2) c.pair.result c.in-Ok-grow.left c.in-Ok-grow-2.right (omega arith)
    c.pair.ensures.came c.pair.ensures.totals c.in-Ok-grow.ensures.came c.in-Ok-grow-2.ensures.came

pub returns-in-Ok-clause-came : goal.returns-in-Ok-clause-came
returns-in-Ok-clause-came g t c = λ inputs entries are number came.
    one_summed (g.S.Sources.bytes c.args.sources.now) c.args.from c.in-Ok.totals c.in-Ok.leaf.lines inputs entries are (number ∙ c.if-count-eq1.true) c.in-Ok.ensures.given c.in-Ok.ensures.totals came
