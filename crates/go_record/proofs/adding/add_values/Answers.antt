use Rattle.std.proofs.Common.{arith, ap, Ok, ◌∙◌, sym}
use Rattle.std.proofs.lemmas.Grind.{common_steps}
use Rattle.std.proofs.lemmas.Result.{err_from_is_err_and}
use Rattle.sgf_core.specs.Values.{value_of}
use Rattle.sgf_core.specs.declared.marks.Value.{Value}
use Rattle.go_record.specs.Inner.Adding.{action_of}
use Rattle.go_record.proofs.Collected.{some_at}
use Rattle.go_record.proofs.adding.add_values.Goals as goal

pub returns-in_err-push-clause-adds : goal.returns-in_err-push-clause-adds
returns-in_err-push-clause-adds c =
    let p = err_from_is_err_and c.from_residual-in_err-push.result c.from_residual-in_err-push.ensures.1 in
    let deed = λ (v : Value). action_of c.args.size c.args.deed (value_of v) in
    let values = c.args.values.now in
    let i = c.loop-value.value-index in
    let some = some_at deed values i _ c.in-Some.action c.loop-value-test.true (sym (ap Ok c.in-Some.is) ∙ c.in_ok-action.ensures.value) in
    rw (p.1, p.2) (omega (arith, c.loop-value.invariant.counted, c.loop-value.invariant.grown, some))

pub loop-value-preserved : goal.loop-value-preserved
loop-value-preserved c = record {
  on_board = grind (arith, common_steps);
  grown = grind (arith, common_steps);
  counted = grind (arith, common_steps);
  left = grind (arith, common_steps);
}
