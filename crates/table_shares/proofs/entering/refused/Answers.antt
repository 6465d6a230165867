use Rattle.std.proofs.Common.{◌∙◌, below_more}
use Rattle.table_shares.proofs.Common.{get_or_default}
use Rattle.probe_core.specs.declared.calls.Answer.TheVariants as answer
use Rattle.table_shares.proofs.entering.refused.Goals as goal

pub loop-i-preserved : goal.loop-i-preserved
loop-i-preserved c = below_more _ _ c.loop-i.invariant
    (c.in-Number.field-0, get_or_default c.args.answers.now c.loop-i.i answer.Absent (answer.Number 0) c.loop-i-test.true ∙ c.in-Number.is)
