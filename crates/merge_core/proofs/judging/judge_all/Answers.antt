use Rattle.std.proofs.Common.{◌∙◌, ℕ, List, sym, subst, ap, refl}
use Rattle.merge_core.specs.declared.faults.MergeFault.{MergeFault}
use Rattle.merge_core.specs.declared.entries.NextFault.{NextFault}
use Rattle.merge_core.specs.declared.entries.NextFault.TheVariants as next_fault
use Rattle.merge_core.specs.Merge.{written_of}
use Rattle.merge_core.specs.Inner.Judging.{IsJudgeFault}
use Rattle.merge_core.specs.Inner.Writing.{stopped}
use Rattle.merge_core.proofs.Written.{stopped_number}
use Rattle.merge_core.proofs.judging.judge_all.Goals as goal

stopped_judged : (inputs : List (List ℕ)) (found : NextFault) → IsJudgeFault inputs (stopped 0 found)
stopped_judged inputs next_fault.Overflow = refl
stopped_judged inputs (next_fault.Read n) = refl
stopped_judged inputs next_fault.Changed = refl
stopped_judged inputs next_fault.Memory = refl

pub returns-in-Ok-clause-first : goal.returns-in-Ok-clause-first
returns-in-Ok-clause-first g c = λ inputs are number. c.in-Ok.ensures.judged inputs are (number ∙ sym c.count-count.ensures)

pub returns-in-Ok-judge_each-clause-quiet : goal.returns-in-Ok-judge_each-clause-quiet
returns-in-Ok-judge_each-clause-quiet g c = ap written_of c.stopped.ensures ∙ stopped_number 0 c.in-Err.fault

pub returns-in-Ok-judge_each-clause-first : goal.returns-in-Ok-judge_each-clause-first
returns-in-Ok-judge_each-clause-first g c = λ inputs are number. subst (λ (f : MergeFault). IsJudgeFault inputs f) (sym c.stopped.ensures) (stopped_judged inputs c.in-Err.fault)

pub returns-in-Err-judge_each-clause-first : goal.returns-in-Err-judge_each-clause-first
returns-in-Err-judge_each-clause-first g c = λ inputs are number. c.in-Err-judge_each.ensures.first inputs are (number ∙ sym c.count-count.ensures)
